-- A Lua frame that has made itself ready for a call.
use Rattle.std.proofs.Common.{◌≡◌, ℕ, ◌+◌, ◌-◌, ◌≤◌, List, [], ◌∷◌, length, Option, Some, None, refl, ap, sym, subst, ◌∙◌, arith, length-append}
use Rattle.std.specs.Prelude.{◌&&◌, ◌||◌, max, nat_le, nat_lt}
use Rattle.std.proofs.lemmas.List.{length-map}
use Rattle.code_core.specs.Prototype.{Prototype}
use Rattle.code_core.specs.Check.{IsChecked}
use Rattle.int_core.specs.Value.{Value, nil, is_known, write, without_last}
use Rattle.machine_core.specs.World.{Cell, Wait, LuaFrame, lua, World, Place, place_of, put_top, close_from}
use Rattle.machine_core.specs.Text.{Arg, read, Own, close_cells, behind, done, is_pending}
use Rattle.machine_core.specs.Moves.{Made, made, on_own, do_own, cells_done, with_own}
use Rattle.machine_sound.proofs.Lists.{bind_at, some_is}
use Rattle.machine_sound.proofs.Values.{length_blanked, length_write}
use Rattle.table_core.specs.declared.value.CoroId.{CoroId}
use Rattle.table_core.specs.declared.value.Value.{Value as Kept}
use Rattle.lua_stack.specs.declared.frame.Wait.{Wait as KeptWait}
use Rattle.lua_stack.specs.Frames.{KeptStack, AllBelow, HasLuaTop, HasRegisters, NoneFrom, TopBecomes, frame_of, top_number, wait_of, with_registers, with_wait}
use Rattle.lua_stack.proofs.OpenCells.{all_below_more}
use Rattle.lua_heap.specs.declared.world.World.{World as Memory}
use Rattle.lua_heap.specs.Reading.{value}
use Rattle.lua_heap.specs.Plain.{plain}
use Rattle.move_laws.specs.Memory.{Runs, ChangesStack, Makes}
use Rattle.move_laws.proofs.Running.{same_top, shown, top_put, place_after, with_top}
use Rattle.machine_errors.specs.Raising.{CanLeave}
use Rattle.machine_calls.specs.declared.preparing.Prepared.{Prepared}
use Rattle.machine_calls.specs.declared.preparing.Prepared.TheVariants.{Nothing, Copied, GivenUp, LeftSo, ReturnedSo, Closed}
use Rattle.machine_calls.specs.Preparing.{prepared_of, IsCopy, CanPrepare, IsThere, ReadyFor, ClosesFor, NoneIsLeft, HasTop, CanChange, changed, taken}

-- changes of the frame on top, one after another

pub lua_top_of : {s : KeptStack} {n : ℕ} → HasTop s n → HasLuaTop s
lua_top_of h = record { value = h.value; below = h.below; top = h.top; is = h.is }

pub registers_of : {s : KeptStack} {n : ℕ} (m : ℕ) → m ≤ n → HasTop s n → HasRegisters s m
registers_of m l h = record { value = h.value; below = h.below; top = h.top; is = h.is; room = (let k = h.room in omega (arith, k, l)) }

pub top_after : {s s' : KeptStack} {n : ℕ} {change : (Kept → Value) → LuaFrame → LuaFrame} (m : ℕ) (h : HasTop s n) → TopBecomes s s' change → m ≤ length (change h.value h.top).own.registers → HasTop s' m
top_after {change = change} m h t l = record { value = h.value; nil_is = h.nil_is; below = h.below; top = change h.value h.top; is = t.top h.value h.nil_is h.below h.top h.is; room = l }

frames_are : {s : KeptStack} {n : ℕ} (h : HasTop s n) → length s.frames ≡ length h.below + 1
frames_are {s} h = sym (length-map s.frames (frame_of h.value)) ∙ ap length h.is ∙ length-append h.below (lua h.top ∷ [])

pub none_after : {s s' : KeptStack} {n : ℕ} {change : (Kept → Value) → LuaFrame → LuaFrame} (m : ℕ) (h : HasTop s n) → TopBecomes s s' change → NoneFrom s m → NoneFrom s' m
unfolding top_after
none_after {s} {s'} {change = change} m h t k =
    let g : HasTop s' 0 = top_after {change = change} 0 h t (omega arith) in
    let number : top_number s ≡ top_number s' = ap (λ n. n - 1) (frames_are h ∙ sym (frames_are g)) in
    record { below = subst (λ cs. AllBelow (top_number s') m cs) (sym t.cells) (subst (λ n. AllBelow n m s.open_cells) number k.below) }

pub both : {s t u : KeptStack} {first then : (Kept → Value) → LuaFrame → LuaFrame} → TopBecomes s t first → TopBecomes t u then → TopBecomes s u (λ f x. then f (first f x))
both {first = first} p q = record { top = λ f n below x e. q.top f n below (first f x) (p.top f n below x e); cells = q.cells ∙ p.cells }

pub none_further : {s : KeptStack} (m n : ℕ) → m ≤ n → NoneFrom s m → NoneFrom s n
none_further {s} m n l k = record { below = all_below_more (top_number s) m n s.open_cells l k.below }

-- what a change leaves

pub same_function : (f : Kept → Value) (prepared : Prepared) (stack : ℕ) (t : LuaFrame) → (changed f prepared stack t).function ≡ t.function
same_function f Nothing stack t = refl
same_function f _ stack t = refl

pub still_room : (f : Kept → Value) (prepared : Prepared) (stack : ℕ) (t : LuaFrame) → stack ≤ length t.own.registers → stack ≤ length (changed f prepared stack t).own.registers
still_room f Nothing stack t l = l
still_room f (Copied register v) stack t l = let k = length_write register (f v) t.own.registers in omega (arith, k, l)
still_room f (GivenUp register) stack t l = let k = length_blanked (λ i. nat_lt i register) 0 stack t.own.registers in omega (arith, k)
still_room f LeftSo stack t l = let k = length_blanked (is_pending (taken 0 t).own.pending) 0 stack t.own.registers in omega (arith, k)
still_room f (ReturnedSo from count) stack t l =
    let k = length_blanked (λ i. is_pending (taken 0 t).own.pending i || (nat_le from i && nat_lt i (from + count))) 0 (max stack (behind from count)) t.own.registers in omega (arith, k)
still_room f (Closed register) stack t l = l

-- the change in the words of moves
changed_as : (f : Kept → Value) (prepared : Prepared) (p : Prototype) (t : LuaFrame) (w : Wait Value) (env : List Value) (x : Arg) → IsCopy f env x prepared
    → record t { wait = w; own = done (prepared_of x prepared) p env t.own } ≡ with_wait w (changed f prepared p.own.stack t)
changed_as f (Copied register v) p t w env x c = ap (λ u. with_wait w (with_registers (write register u t.own.registers) t)) c
changed_as f _ p t w env x c = refl

-- what a change supposes

has_top : (W : Memory) (co : CoroId) (s : KeptStack) (at : Place) (n : ℕ) → Runs W co s → place_of (plain W 0) ≡ Some at → n ≤ length at.top.own.registers → HasTop s n
has_top W co s at n r e l = record { value = value W.strings; nil_is = refl; below = without_last at.stack.frames; top = at.top; is = (shown W co s at r e).frames_are; room = l }

pub can_change : (old shut : Memory) (co : CoroId) (s : KeptStack) (at : Place) (prepared : Prepared) (stack : ℕ) → Runs shut co s → place_of (plain shut 0) ≡ Some at → stack ≡ at.function.code.own.stack
    → stack ≤ length at.top.own.registers → IsThere old at prepared → NoneIsLeft old shut prepared → CanChange s prepared stack
can_change old shut co s at Nothing stack r e q l h k = has_top shut co s at 0 r e (omega arith)
can_change old shut co s at (Copied register v) stack r e q l h k = has_top shut co s at (register + 1) r e (omega (arith, h))
can_change old shut co s at (GivenUp register) stack r e q l h k =
    (has_top shut co s at stack r e l, subst (λ n. register ≤ n) (sym q) h.0, subst (λ n. NoneFrom s n) (sym q) (h.1 co s (subst (λ W. Runs W co s) k r)))
can_change old shut co s at LeftSo stack r e q l h k = (has_top shut co s at stack r e l, none_further 0 stack (omega arith) (k co s r))
can_change old shut co s at (ReturnedSo from count) stack r e q l h k =
    (has_top shut co s at (max stack (behind from count)) r e (omega (arith, l, h)), none_further 0 (max stack (behind from count)) (omega arith) (k co s r))
can_change old shut co s at (Closed register) stack r e q l h k = has_top shut co s at 0 r e (omega arith)

-- the world

abbrev ready_top : KeptWait → Prepared → ℕ → (Kept → Value) → LuaFrame → LuaFrame
ready_top wait prepared stack f t = with_wait (wait_of f wait) (changed f prepared stack t)

own_is : (V : World) (at : Place) (w : Wait Value) (ms : List Own) (env : List Value)
    → with_own V at w ms env
    ≡ put_top (record V { cells = cells_done ms at.function.code at.stack.coroutine at.number env at.top.own V.cells }) at.stack (lua (record at.top { wait = w; own = done ms at.function.code env at.top.own }))
unfolding with_own
own_is V at w ms env = refl

pub shut_place : {old shut : Memory} {prepared : Prepared} (at : Place) → place_of (plain old 0) ≡ Some at → ClosesFor old shut prepared → place_of (plain shut 0) ≡ Some at
shut_place at e k = ap place_of (k.is at e [] (read 0) 0) ∙ e

module _ (old shut new : Memory) (co : CoroId) (s s' : KeptStack) (wait : KeptWait) (prepared : Prepared) (stack : ℕ) (at : Place) (r : Runs shut co s) (e : place_of (plain old 0) ≡ Some at)
    (k : ClosesFor old shut prepared) (c : ChangesStack shut new co s') (t : TopBecomes s s' (ready_top wait prepared stack)) (q : stack ≡ at.function.code.own.stack) (texts : shut.strings ≡ old.strings) where
  ready_here : (env : List Value) (x : Arg) → IsCopy (value old.strings) env x prepared → (fuel : ℕ)
      → with_own (plain old fuel) at (wait_of (value old.strings) wait) (prepared_of x prepared) env ≡ plain new fuel
  ready_here env x i fuel =
      let w = wait_of (value old.strings) wait in
      own_is (plain old fuel) at w (prepared_of x prepared) env
      ∙ ap (λ V. put_top V at.stack (lua (record at.top { wait = w; own = done (prepared_of x prepared) at.function.code env at.top.own }))) (sym (k.is at e env x fuel))
      ∙ ap (λ (t : LuaFrame). put_top (plain shut fuel) at.stack (lua t))
      (changed_as (value old.strings) prepared at.function.code at.top w env x i
      ∙ ap (λ n. with_wait w (changed (value old.strings) prepared n at.top)) (sym q)
      ∙ ap (λ texts. ready_top wait prepared stack (value texts) at.top) (sym texts))
      ∙ top_put shut new co s s' at (ready_top wait prepared stack) fuel r (shut_place at e k) c t

  pub ready_so : ReadyFor old new wait prepared
  ready_so = record { is = λ place f env x i fuel. subst (λ p. with_own (plain old fuel) p (wait_of (value old.strings) wait) (prepared_of x prepared) env ≡ plain new fuel) (some_is e f) (ready_here env x i fuel) }

  pub whole_so : CanPrepare old prepared → CanLeave new
  whole_so h =
      let f = value shut.strings in
      let u = ready_top wait prepared stack f at.top in
      let same : h.place ≡ at = some_is h.is e in
      let room : stack ≤ length at.top.own.registers = subst (λ n. n ≤ length at.top.own.registers) (sym q) (subst (λ (p : Place). p.function.code.own.stack ≤ length p.top.own.registers) same h.room) in
      record {
        place = with_top at u;
        is = place_after shut new co s s' at (ready_top wait prepared stack) r (shut_place at e k) c t (same_function f prepared stack at.top);
        checked = subst (λ (p : Place). IsChecked p.function.code) same h.checked;
        room = subst (λ n. n ≤ length u.own.registers) q (still_room f prepared stack at.top room);
      }

-- whatever is changed, a Lua frame is on top

top_any : {s : KeptStack} {n : ℕ} → HasTop s n → HasTop s 0
top_any h = record { value = h.value; nil_is = h.nil_is; below = h.below; top = h.top; is = h.is; room = omega arith }

any_top : {s : KeptStack} (prepared : Prepared) (stack : ℕ) → CanChange s prepared stack → HasTop s 0
any_top Nothing stack h = h
any_top (Copied register v) stack h = top_any h
any_top (GivenUp register) stack h = top_any h.0
any_top LeftSo stack h = top_any h.0
any_top (ReturnedSo from count) stack h = top_any h.0
any_top (Closed register) stack h = h

pub changed_lua_top : {s s' : KeptStack} (prepared : Prepared) (stack : ℕ) → CanChange s prepared stack → TopBecomes s s' (λ f t. changed f prepared stack t) → HasLuaTop s'
changed_lua_top prepared stack h t =
    let k = any_top prepared stack h in
    record { value = k.value; below = k.below; top = changed k.value prepared stack k.top; is = t.top k.value k.nil_is k.below k.top k.is }

-- cells that are closed

abbrev with_cells : World → List Cell → World
with_cells V cells = record V { cells = cells }

closed_own : (V : World) (at : Place) (r : ℕ) (env : List Value) → place_of V ≡ Some at
    → with_own V at at.top.wait (close_cells r ∷ []) env ≡ with_cells V (close_from at.stack.coroutine at.number r at.top.own.registers V.cells)
unfolding with_own
closed_own V at r env e = same_top (with_cells V (close_from at.stack.coroutine at.number r at.top.own.registers V.cells)) at e

made_is : {A : Type 0} {V W : World} {vs ws : List Value} {a b : A} → ◌≡◌ {A = Option (Made A)} (made V vs a) (made W ws b) → V ≡ W
made_is {A = A} {V = V} e = ap (λ (o : Option (Made A)). elim o as (λ _. World) [ Some d ↦ d.world | None ↦ V ]) e

pub closed_for : (old new : Memory) (r : ℕ) (at : Place) (fuel : ℕ) → Makes old new (on_own (close_cells r)) [] [] (is_known nil) → place_of (plain old 0) ≡ Some at
    → plain new fuel ≡ with_cells (plain old fuel) (close_from at.stack.coroutine at.number r at.top.own.registers (plain old fuel).cells)
closed_for old new r at fuel m e =
    made_is (sym (m.is fuel) ∙ bind_at (do_own (close_cells r) [] (plain old fuel)) (place_of (plain old fuel)) at e) ∙ closed_own (plain old fuel) at r [] e

-- The running stack in memory, and moves on the frame on top of it.
use Rattle.std.proofs.Common.{◌≡◌, ℕ, zero, suc, ◌≤◌, List, [], ◌∷◌, ◌++◌, length, Option, Some, None, refl, ap, sym, ◌∙◌, arith, length-append, true}
use Rattle.std.specs.Prelude.{◌-◌, ℤ, IsSome, cond, map, slice_get, slice_set}
use Rattle.code_core.specs.declared.instruction.Instruction.{Instruction}
use Rattle.code_core.specs.Check.{at}
use Rattle.int_core.specs.Value.{Value, known, nil, nth, bind, last, without_last}
use Rattle.machine_core.specs.World.{Function, Cell, LuaFrame, lua_frame, Frame, lua, Coroutine, in_progress, World, Stack, stack_of, Place, place_of, put_frames, put_top}
use Rattle.machine_core.specs.Text.{Own, reads, tells, effect, fits}
use Rattle.machine_core.specs.Moves.{Made, made, move, move_pc, moved_pc, place_from, on_own, do_own, with_own, cells_after}
use Rattle.machine_sound.proofs.Lists.{map_get, get_map, some_is, bind_at, last_push, last_splits, get_push_new, get_set_same}
use Rattle.machine_sound.proofs.Frames.{stack_is as running_stack_is}
use Rattle.table_core.specs.declared.value.CoroId.{CoroId}
use Rattle.table_core.specs.declared.value.Value.{Value as Kept}
use Rattle.lua_stack.specs.Frames.{KeptStack, frames, HasLuaTop, HasRegisters, OnTop, TopBecomes, with_pc}
use Rattle.lua_heap.specs.declared.world.Coro.{Coro}
use Rattle.lua_heap.specs.declared.world.Coro.TheVariants.{Running}
use Rattle.lua_heap.specs.declared.world.World.{World as Memory}
use Rattle.lua_heap.specs.Reading.{value}
use Rattle.lua_heap.specs.Plain.{plain, coroutine}
use Rattle.move_laws.specs.Memory.{Runs, ChangesStack, HasStack, Makes}
use Rattle.move_laws.specs.Law.{StackRuns, ChangedStackIsPut}
use Rattle.move_laws.proofs.Places.{stack_is, place_is}

pub map_set : {A B : Type 0} (f : A → B) (xs : List A) (i : ℕ) (x : A) → map f (slice_set xs i x) ≡ slice_set (map f xs) i (f x)
map_set f [] i x = refl
map_set f (y ∷ xs) zero x = refl
map_set f (y ∷ xs) (suc i) x = ap (λ l. f y ∷ l) (map_set f xs i x)

map_last : {A B : Type 0} (f : A → B) (xs : List A) (y : B) → last (map f xs) ≡ Some y → (x : A) × (last xs ≡ Some x) × (f x ≡ y)
map_last f [] y e = absurd (cc)
map_last f (x ∷ []) y e = (x, refl, some_is {o = Some (f x)} refl e)
map_last f (x ∷ z ∷ xs) y e = map_last f (z ∷ xs) y e

running_kept : (texts : List (List ℕ)) (c : Coro) (fs : List Frame) → coroutine texts c ≡ in_progress fs → (s : KeptStack) × (c ≡ Running s) × (frames (value texts) s ≡ fs)
running_kept texts (Running s) fs e = (s, refl, cc)
running_kept texts _ fs e = absurd (cc)

pub stack_runs : StackRuns
stack_runs W h =
    let k = stack_is (plain W 0) h.stack h.is in
    let c = map_last (λ co. co.0) W.chain.items h.stack.coroutine k.chain in
    let d = map_get (coroutine W.strings) W.coros.objects h.stack.coroutine (in_progress h.stack.frames) k.there in
    let r = running_kept W.strings d.0 h.stack.frames d.2 in
    record { co = c.0; stack = r.0; runs = record { chain = c.1; there = ap (slice_get W.coros.objects) c.2 ∙ d.1 ∙ ap (λ c. Some c) r.1 } }

put_plain : (old : Memory) (cs : List Coro) (spare : ℕ) (fuel : ℕ) (co : ℕ) (s : KeptStack) → cs ≡ slice_set old.coros.objects co (Running s)
    → plain (record old { coros = record { objects = cs; spare = spare } }) fuel ≡ put_frames (plain old fuel) co (frames (value old.strings) s)
unfolding put_frames
put_plain old cs spare fuel co s e =
    ap (λ (l : List Coroutine). record (plain old fuel) { coroutines = l }) (ap (map (coroutine old.strings)) e ∙ map_set (coroutine old.strings) old.coros.objects co (Running s))

pub changed_stack_is_put : ChangedStackIsPut
changed_stack_is_put old new co s fuel c = ap (λ W. plain W fuel) c.rest ∙ put_plain old new.coros.objects new.coros.spare fuel co.0 s c.objects

-- where it is known which stack runs, the machine's stack is that one
pub record Shown (W : Memory) (co : CoroId) (s : KeptStack) (at : Place) : Type 0 where
  pub coroutine : at.stack.coroutine ≡ co.0
  pub frames_are : frames (value W.strings) s ≡ without_last at.stack.frames ++ lua at.top ∷ []

in_progress_is : {fs gs : List Frame} → in_progress fs ≡ in_progress gs → fs ≡ gs
in_progress_is {fs} {gs} e = ap (λ c. elim c as (λ _. List Frame) [ in_progress hs ↦ hs | _ ↦ fs ]) e

pub shown : (W : Memory) (co : CoroId) (s : KeptStack) (at : Place) → Runs W co s → place_of (plain W 0) ≡ Some at → Shown W co s at
shown W co s at r e =
    let p = place_is (plain W 0) at e in
    let k = stack_is (plain W 0) at.stack p.stack in
    let c = map_last (λ co. co.0) W.chain.items at.stack.coroutine k.chain in
    let same : c.0 ≡ co = some_is c.1 r.chain in
    let number : at.stack.coroutine ≡ co.0 = sym c.2 ∙ ap (λ (co : CoroId). co.0) same in
    let there : slice_get (plain W 0).coroutines co.0 ≡ Some (in_progress (frames (value W.strings) s)) = get_map (coroutine W.strings) W.coros.objects co.0 (Running s) r.there in
    let both : in_progress (frames (value W.strings) s) ≡ in_progress at.stack.frames = some_is (ap (slice_get (plain W 0).coroutines) number ∙ there) k.there in
    record { coroutine = number; frames_are = in_progress_is both ∙ last_splits at.stack.frames (lua at.top) p.top }

-- moves on the frame on top

pub set_same : {A : Type 0} (xs : List A) (i : ℕ) (x : A) → slice_get xs i ≡ Some x → slice_set xs i x ≡ xs
set_same [] i x e = refl
set_same (y ∷ xs) zero x e = ap (λ z. z ∷ xs) (some_is {o = Some y} e refl)
set_same (y ∷ xs) (suc i) x e = ap (λ l. y ∷ l) (set_same xs i x e)

-- the frame on top put in its own place
pub same_top : (W : World) (at : Place) → place_of W ≡ Some at → put_top W at.stack (lua at.top) ≡ W
unfolding put_top put_frames
same_top W at e =
    let p = place_is W at e in
    let k = stack_is W at.stack p.stack in
    ap (λ fs. record W { coroutines = slice_set W.coroutines at.stack.coroutine (in_progress fs) }) (sym (last_splits at.stack.frames (lua at.top) p.top))
    ∙ ap (λ cs. record W { coroutines = cs }) (set_same W.coroutines at.stack.coroutine (in_progress at.stack.frames) k.there)

own_put : (W : World) (at : Place) (m : Own) (env : List Value) (t : LuaFrame) → cells_after m at.stack.coroutine at.number at.top.own W.cells ≡ W.cells
    → record at.top { own = effect m at.function.code env at.top.own } ≡ t → with_own W at at.top.wait (m ∷ []) env ≡ put_top W at.stack (lua t)
unfolding with_own
own_put W at m env t c e =
    ap (λ cells. put_top (record W { cells = cells }) at.stack (lua (record at.top { own = effect m at.function.code env at.top.own }))) c
    ∙ ap (λ t. put_top W at.stack (lua t)) e

-- a move that changes the frame on top into t
pub own_moved : (W : World) (at : Place) (m : Own) (env : List Value) (t : LuaFrame) → place_of W ≡ Some at → fits m at.function.code at.top.own ≡ true
    → cells_after m at.stack.coroutine at.number at.top.own W.cells ≡ W.cells → record at.top { own = effect m at.function.code env at.top.own } ≡ t
    → move (on_own m) env W ≡ made (put_top W at.stack (lua t)) (reads m at.function.code env at.top.own) (tells m at.function.code env at.top.own)
own_moved W at m env t e f c s =
    bind_at (do_own m env W) (place_of W) at e
    ∙ ap (λ b. cond b (made (with_own W at at.top.wait (m ∷ []) env) (reads m at.function.code env at.top.own) (tells m at.function.code env at.top.own)) None) f
    ∙ ap (λ V. made V (reads m at.function.code env at.top.own) (tells m at.function.code env at.top.own)) (own_put W at m env t c s)

-- a move that changes nothing
pub own_read : (W : World) (at : Place) (m : Own) (env : List Value) → place_of W ≡ Some at → fits m at.function.code at.top.own ≡ true
    → cells_after m at.stack.coroutine at.number at.top.own W.cells ≡ W.cells → effect m at.function.code env at.top.own ≡ at.top.own
    → move (on_own m) env W ≡ made W (reads m at.function.code env at.top.own) (tells m at.function.code env at.top.own)
own_read W at m env e f c s =
    own_moved W at m env at.top e f c (ap (λ own. record at.top { own = own }) s)
    ∙ ap (λ V. made V (reads m at.function.code env at.top.own) (tells m at.function.code env at.top.own)) (same_top W at e)

-- the stack whose frame on top becomes what a change makes of it
pub top_put : (old new : Memory) (co : CoroId) (s s' : KeptStack) (at : Place) (change : (Kept → Value) → LuaFrame → LuaFrame) (fuel : ℕ)
    → Runs old co s → place_of (plain old 0) ≡ Some at → ChangesStack old new co s' → TopBecomes s s' change
    → put_top (plain old fuel) at.stack (lua (change (value old.strings) at.top)) ≡ plain new fuel
unfolding put_top
top_put old new co s s' at change fuel r e c t =
    let h = shown old co s at r e in
    ap (λ co. put_frames (plain old fuel) co (without_last at.stack.frames ++ lua (change (value old.strings) at.top) ∷ [])) h.coroutine
    ∙ ap (put_frames (plain old fuel) co.0) (sym (t.top (value old.strings) refl (without_last at.stack.frames) at.top h.frames_are))
    ∙ sym (changed_stack_is_put old new co s' fuel c)

-- a move of the machine that is a change of the frame on top in memory
pub own_made : (old new : Memory) (co : CoroId) (s s' : KeptStack) (at : Place) (change : (Kept → Value) → LuaFrame → LuaFrame) (m : Own) (env : List Value)
    → Runs old co s → place_of (plain old 0) ≡ Some at → fits m at.function.code at.top.own ≡ true → ChangesStack old new co s' → TopBecomes s s' change
    → ((co frame : ℕ) (cells : List Cell) → cells_after m co frame at.top.own cells ≡ cells)
    → record at.top { own = effect m at.function.code env at.top.own } ≡ change (value old.strings) at.top
    → Makes old new (on_own m) env (reads m at.function.code env at.top.own) (tells m at.function.code env at.top.own)
own_made old new co s s' at change m env r e f c t cells same = record {
  is = λ fuel.
      own_moved (plain old fuel) at m env (change (value old.strings) at.top) e f (cells at.stack.coroutine at.number (plain old fuel).cells) same
      ∙ ap (λ V. made V (reads m at.function.code env at.top.own) (tells m at.function.code env at.top.own)) (top_put old new co s s' at change fuel r e c t);
}

-- what a stack's own calls suppose

pub lua_top : (W : Memory) (co : CoroId) (s : KeptStack) (at : Place) → Runs W co s → place_of (plain W 0) ≡ Some at → HasLuaTop s
lua_top W co s at r e = let h = shown W co s at r e in record { value = value W.strings; below = without_last at.stack.frames; top = at.top; is = h.frames_are }

pub registers_there : (W : Memory) (co : CoroId) (s : KeptStack) (at : Place) (n : ℕ) → Runs W co s → place_of (plain W 0) ≡ Some at → n ≤ length at.top.own.registers → HasRegisters s n
registers_there W co s at n r e l = let h = shown W co s at r e in record { value = value W.strings; below = without_last at.stack.frames; top = at.top; is = h.frames_are; room = l }

-- what is told of the frame on top of the stack holds of the machine's
pub of_top : (W : Memory) (co : CoroId) (s : KeptStack) (at : Place) (P : (Kept → Value) → LuaFrame → Type 0) → Runs W co s → place_of (plain W 0) ≡ Some at → OnTop s P → P (value W.strings) at.top
of_top W co s at P r e o = o (value W.strings) (without_last at.stack.frames) at.top (shown W co s at r e).frames_are

-- a move to another place of the code

abbrev pub at_pc : LuaFrame → ℕ → LuaFrame
at_pc t pc = record t { own = record t.own { pc = pc } }

abbrev pub went : World → Place → ℕ → Option (Made (Unit {0}))
went W p pc = made (put_top W p.stack (lua (at_pc p.top pc))) [] tt

pub pc_moved : (W : World) (p : Place) (z : ℤ) (pc : ℕ) (env : List Value) → place_of W ≡ Some p → place_from p.top.own.pc z ≡ Some pc → IsSome (at p.function.code pc)
    → move (move_pc z) env W ≡ made (put_top W p.stack (lua (record p.top { own = record p.top.own { pc = pc } }))) [] tt
pc_moved W p z pc env e f s =
    bind_at (λ p. moved_pc W p z) (place_of W) p e
    ∙ ap (λ o. bind o (λ pc. bind (at p.function.code pc) (λ _. made (put_top W p.stack (lua (at_pc p.top pc))) [] tt))) f
    ∙ by (at p.function.code pc) s
  where
    by : (o : Option Instruction) → IsSome o → bind o (λ _. went W p pc) ≡ went W p pc
    by None s = absurd (cc)
    by (Some i) s = refl

pub pc_made : (old new : Memory) (co : CoroId) (s s' : KeptStack) (p : Place) (pc : ℕ) (z : ℤ) (env : List Value)
    → Runs old co s → place_of (plain old 0) ≡ Some p → place_from p.top.own.pc z ≡ Some pc → IsSome (at p.function.code pc) → ChangesStack old new co s'
    → TopBecomes s s' (λ f t. with_pc pc t) → Makes old new (move_pc z) env [] tt
pc_made old new co s s' p pc z env r e f i c t = record {
  is = λ fuel. pc_moved (plain old fuel) p z pc env e f i ∙ ap (λ V. made V [] tt) (top_put old new co s s' p (λ f t. with_pc pc t) fuel r e c t);
}

-- what a value is that a stack gives

pub nth_is : (vs : List Value) (n : ℕ) (v : Value) → slice_get vs n ≡ Some v → nth vs n ≡ v
nth_is vs n v e = ap (λ o. elim o as (λ _. Value) [ None ↦ known nil | Some v ↦ v ]) e

pub has_stack : (W : Memory) (p : Place) → place_of (plain W 0) ≡ Some p → HasStack W
has_stack W p e = record { stack = p.stack; is = (place_is (plain W 0) p e).stack }

pub last_there : {A : Type 0} (xs : List A) (x : A) → last xs ≡ Some x → slice_get xs (length xs - 1) ≡ Some x
last_there {A = A} xs x e =
    let s = last_splits xs x e in
    let l : length (without_last xs ++ x ∷ []) - 1 ≡ length (without_last xs) = (let k = length-append (without_last xs) (x ∷ []) in omega (arith, k)) in
    ap (λ (ys : List A). slice_get ys (length ys - 1)) s ∙ ap (slice_get (without_last xs ++ x ∷ [])) l ∙ get_push_new (without_last xs) x

-- the place of a world whose frame on top was put there

abbrev place_made : Stack → LuaFrame → Function → Place
place_made s top f = record { stack = s; number = length s.frames - 1; top = top; function = f }

abbrev numbered : ℕ → Place → Place
numbered n p = record p { number = n }

abbrev pub with_top : Place → LuaFrame → Place
with_top at t = record { stack = record { coroutine = at.stack.coroutine; frames = without_last at.stack.frames ++ lua t ∷ [] }; number = at.number; top = t; function = at.function }

put_stack : (W : World) (at : Place) (t : LuaFrame) → place_of W ≡ Some at → stack_of (put_top W at.stack (lua t)) ≡ Some (with_top at t).stack
unfolding put_top put_frames
put_stack W at t e =
    let p = place_is W at e in
    let k = stack_is W at.stack p.stack in
    let fs = without_last at.stack.frames ++ lua t ∷ [] in
    running_stack_is (put_top W at.stack (lua t)) at.stack.coroutine fs k.chain (get_set_same W.coroutines at.stack.coroutine (in_progress at.stack.frames) (in_progress fs) k.there)

functions_put : (W : World) (s : Stack) (f : Frame) → (put_top W s f).functions ≡ W.functions
unfolding put_top put_frames
functions_put W s f = refl

pub place_put : (W : World) (at : Place) (t : LuaFrame) → place_of W ≡ Some at → t.function ≡ at.top.function → place_of (put_top W at.stack (lua t)) ≡ Some (with_top at t)
place_put W at t e same =
    let p = place_is W at e in
    let V = put_top W at.stack (lua t) in
    let fs = without_last at.stack.frames ++ lua t ∷ [] in
    let lengths : length fs - 1 ≡ at.number = (let l = length-append (without_last at.stack.frames) (lua t ∷ []) in let m = ap length (last_splits at.stack.frames (lua at.top) p.top) in let n = length-append (without_last at.stack.frames) (lua at.top ∷ []) in let k = p.number in omega (arith, l, m, n, k)) in
    let there : slice_get V.functions t.function ≡ Some at.function = ap (λ l. slice_get l t.function) (functions_put W at.stack (lua t)) ∙ ap (slice_get W.functions) same ∙ p.function in
    ap (λ o. bind {B = Place} o (λ s. bind {B = Place} (bind (last s.frames) lua_frame) (λ top. bind {B = Place} (slice_get V.functions top.function) (λ f. Some (place_made s top f))))) (put_stack W at t e)
    ∙ ap (λ o. bind {B = Place} (bind o lua_frame) (λ top. bind {B = Place} (slice_get V.functions top.function) (λ f. Some (place_made (with_top at t).stack top f)))) (last_push (without_last at.stack.frames) (lua t))
    ∙ ap (λ o. bind {B = Place} o (λ f. Some (place_made (with_top at t).stack t f))) there
    ∙ ap (λ n. Some (numbered n (with_top at t))) lengths

-- and in memory
pub place_after : (old new : Memory) (co : CoroId) (s s' : KeptStack) (at : Place) (change : (Kept → Value) → LuaFrame → LuaFrame)
    → Runs old co s → place_of (plain old 0) ≡ Some at → ChangesStack old new co s' → TopBecomes s s' change → (change (value old.strings) at.top).function ≡ at.top.function
    → place_of (plain new 0) ≡ Some (with_top at (change (value old.strings) at.top))
place_after old new co s s' at change r e c t f =
    ap place_of (sym (top_put old new co s s' at change 0 r e c t)) ∙ place_put (plain old 0) at (change (value old.strings) at.top) e f

-- What a return on a stack tests and does.
use Rattle.std.proofs.Common.{◌≡◌, ℕ, zero, suc, ◌+◌, ◌-◌, ◌<◌, ◌≤◌, [], ◌∷◌, ◌++◌, List, Option, Some, None, refl, ap, sym, subst, ◌∙◌, arith, length, length-append, map}
use Rattle.std.specs.Prelude.{IfNone, IfSome, slice_get}
use Rattle.std.proofs.lemmas.List.{length-map}
use Rattle.code_core.specs.declared.instruction.Instruction.{Instruction}
use Rattle.int_core.specs.Value.{Value, known, last, nil, nth, range, without_last, write, write_all}
use Rattle.machine_core.specs.World.{LuaFrame, lua}
use Rattle.table_core.specs.declared.value.Value.{Value as Kept}
use Rattle.table_core.specs.declared.value.Value.TheVariants.{Nil}
use Rattle.machine_sound.proofs.Lists.{last_splits, some_is}
use Rattle.lua_stack.specs.Frames.{HasLuaTop, HasRegisters, KeptFrame, KeptLua, KeptStack, TopBecomes, frame_of, frames, kept_lua, kept_state, lua_of, with_registers}
use Rattle.lua_stack.specs.declared.frame.LuaState.{LuaState}
use Rattle.lua_heap.specs.declared.codes.Code.{Code}
use Rattle.machine_view.proofs.Rows.{nth_map}
use Rattle.frame_calls.specs.declared.returning.Given.{Given}
use Rattle.frame_calls.specs.declared.stop.Stop.{Stop}
use Rattle.frame_calls.specs.Calling.{HasCode, MayLeave, Program}
use Rattle.frame_calls.specs.Crossing.{CrossesAt}
use Rattle.frame_calls.specs.Returning.{HasKept, IsCaller, IsCallerIn, IsGiven, TakesBy}
pub use Rattle.machine_loop.proofs.Alike.{none_then}

-- the first two of some values

abbrev pub both : (first second : Kept) → Given
both first second = record { first = first; second = second }

abbrev pub of_registers : List Kept → (register count : ℕ) → (Kept → Value) → List Value
of_registers registers register count f = range register count (map f registers)

pub given_none : (registers : List Kept) (register count : ℕ) → count ≡ 0 → IsGiven registers register count (both Nil Nil)
given_none registers register count e = subst (λ n. IsGiven registers register n (both Nil Nil)) (sym e) (record {
  room = omega arith;
  two = λ f z. ap (λ v. v ∷ v ∷ []) (sym z);
})

pub given_one : (registers : List Kept) (register count : ℕ) (v : Kept) → count ≡ 1 → register + count ≤ length registers → slice_get registers register ≡ Some v → IsGiven registers register count (both v Nil)
given_one registers register count v e l is = subst (λ n. IsGiven registers register n (both v Nil)) (sym e) (record {
  room = omega (arith, e, l);
  two = λ f z.
      ap (λ w. w ∷ known nil ∷ []) (nth_map f registers register v is)
      ∙ ap (λ w. f v ∷ w ∷ []) (sym z);
})

pub given_two : (registers : List Kept) (register count : ℕ) (v w : Kept) → 1 < count → register + count ≤ length registers → slice_get registers register ≡ Some v → slice_get registers (register + 1) ≡ Some w
    → IsGiven registers register count (both v w)
given_two registers register zero v w m l e next = absurd (omega (arith, m))
given_two registers register (suc zero) v w m l e next = absurd (omega (arith, m))
given_two registers register (suc (suc n)) v w m l e next = record {
  room = l;
  two = λ f z.
      let behind_is : suc register ≡ register + 1 = omega arith in
      ap (λ x. x ∷ nth (map f registers) (suc register) ∷ []) (nth_map f registers register v e)
      ∙ ap (λ n. f v ∷ nth (map f registers) n ∷ []) behind_is
      ∙ ap (λ x. f v ∷ x ∷ []) (nth_map f registers (register + 1) w next);
}

-- where there is no value it is nil
pub none_at : (f : Kept → Value) → f Nil ≡ known nil → (vs : List Kept) (n : ℕ) → slice_get vs n ≡ None → nth (map f vs) n ≡ f Nil
none_at f z [] n e = sym z
none_at f z (x ∷ vs) zero e = absurd (cc)
none_at f z (x ∷ vs) (suc n) e = none_at f z vs n e

-- so many of them, where that is at most two
pub two_range : (xs : List Value) (v w : Value) → range 0 2 xs ≡ v ∷ w ∷ [] → (n : ℕ) → n ≤ 2 → range 0 n xs ≡ range 0 n (v ∷ w ∷ [])
two_range xs v w e zero l = refl
two_range xs v w e (suc zero) l = ap (λ ys. nth ys 0 ∷ []) e
two_range xs v w e (suc (suc zero)) l = e
two_range xs v w e (suc (suc (suc n))) l = absurd (omega (arith, l))

-- two changes of the frame on top
pub both_changes : {s t u : KeptStack} {first second : (Kept → Value) → LuaFrame → LuaFrame} → TopBecomes s t first → TopBecomes t u second → TopBecomes s u (λ f x. second f (first f x))
both_changes {first = first} a b = record { top = λ f z below x e. b.top f z below (first f x) (a.top f z below x e); cells = b.cells ∙ a.cells }

-- nothing is written, one value or two

abbrev pub puts : (register : ℕ) → Given → (count : ℕ) → (Kept → Value) → LuaFrame → LuaFrame
puts register g count f t = with_registers (write_all register (range 0 count (f g.first ∷ f g.second ∷ [])) t.own.registers) t

module _ {s : KeptStack} (count register : ℕ) (g : Given) where
  pub nothing_put : count ≡ 0 → TopBecomes s s (λ f t. puts register g count f t)
  nothing_put e = record { top = λ f z below t h. h ∙ ap (λ n. below ++ lua (puts register g n f t) ∷ []) (sym e); cells = refl }

  pub one_put : {u : KeptStack} → count ≡ 1 → TopBecomes s u (λ f t. with_registers (write register (f g.first) t.own.registers) t) → TopBecomes s u (λ f t. puts register g count f t)
  one_put e b = record { top = λ f z below t h. b.top f z below t h ∙ ap (λ n. below ++ lua (puts register g n f t) ∷ []) (sym e); cells = b.cells }

  pub two_put : {u : KeptStack} → count ≡ 2 → TopBecomes s u (λ f t. with_registers (write_all register (f g.first ∷ f g.second ∷ []) t.own.registers) t) → TopBecomes s u (λ f t. puts register g count f t)
  two_put e b = record { top = λ f z below t h. b.top f z below t h ∙ ap (λ n. below ++ lua (puts register g n f t) ∷ []) (sym e); cells = b.cells }

pub found_is : {A : Type 0} (o found : Option A) → o ≡ found → IfSome o (λ v. found ≡ Some v)
found_is None found e = tt
found_is (Some v) found e = sym e

-- a Lua frame is on top

pub last_at : {A : Type 0} (xs : List A) (x : A) → slice_get xs (length xs - 1) ≡ Some x → last xs ≡ Some x
last_at [] x h = absurd (cc)
last_at (y ∷ xs) x h = let e : suc (length xs) - 1 ≡ length xs = omega arith in ap (slice_get (y ∷ xs)) (sym e) ∙ h

pub frames_there : {s : KeptStack} → HasLuaTop s → 0 < length s.frames
frames_there {s} h =
    let same = sym (length-map s.frames (frame_of h.value)) ∙ ap length h.is in
    let more = length-append h.below (lua h.top ∷ []) in
    omega (arith, same, more)

pub map_more : {A B : Type 0} (f : A → B) (xs ys : List A) → map f (xs ++ ys) ≡ map f xs ++ map f ys
map_more f [] ys = refl
map_more f (x ∷ xs) ys = ap (λ l. f x ∷ l) (map_more f xs ys)

-- the frame below has the registers that its call names

abbrev state_of : KeptLua → LuaState
state_of t = record { function = t.function; wait = t.wait; pc = t.pc; size = length t.registers }

state_there : (o : Option KeptFrame) (c : LuaState) → Some c ≡ kept_state o → (t : KeptLua) × (o ≡ Some (kept_lua t)) × IsCallerIn t c
state_there (Some (kept_lua t)) c e =
    let same : state_of t ≡ c = some_is {o = Some c} e refl in (
      t,
      refl,
      record { waits = ap (λ (c : LuaState). c.wait) same; function = ap (λ (c : LuaState). c.function) same; pc = ap (λ (c : LuaState). c.pc) same; size = ap (λ (c : LuaState). c.size) same },
    )
state_there _ c e = absurd (cc)

pub caller_there : (s : KeptStack) (o : Option LuaState) → o ≡ kept_state (last (without_last s.frames)) → IfSome o (λ c. IsCaller s c)
caller_there s None e = tt
caller_there s (Some c) e = let t = state_there (last (without_last s.frames)) c e in record { frame = t.0; at = t.1; knows = t.2 }

pub caller_kept : {s t : KeptStack} {c : LuaState} (n : ℕ) → IsCaller s c → t.frames ≡ without_last s.frames → n ≤ c.size → HasKept t n
caller_kept {s} {t} {c} n x e l = record {
  below = without_last (without_last s.frames);
  top = x.frame;
  is = e ∙ last_splits (without_last s.frames) (kept_lua x.frame) x.at;
  room = let m = x.knows.size in omega (arith, l, m);
}

module _ {s : KeptStack} {n : ℕ} (h : HasKept s n) where
  pub top_by : (f : Kept → Value) → frames f s ≡ map (frame_of f) h.below ++ lua (lua_of f h.top) ∷ []
  top_by f = ap (map (frame_of f)) h.is ∙ map_more (frame_of f) h.below (kept_lua h.top ∷ [])

  pub registers_kept : HasRegisters s n
  registers_kept = record {
    value = λ v. known nil;
    below = map (frame_of (λ v. known nil)) h.below;
    top = lua_of (λ v. known nil) h.top;
    is = top_by (λ v. known nil);
    room = let m = h.room in let k = length-map h.top.registers (λ (v : Kept). known nil) in omega (arith, m, k);
  }

  -- it stays on top where it is changed
  pub top_after : {u : KeptStack} {change : (Kept → Value) → LuaFrame → LuaFrame} → TopBecomes s u change → HasLuaTop u
  top_after {change = change} b = record {
    value = λ v. known nil;
    below = map (frame_of (λ v. known nil)) h.below;
    top = change (λ v. known nil) (lua_of (λ v. known nil) h.top);
    is = b.top (λ v. known nil) refl (map (frame_of (λ v. known nil)) h.below) (lua_of (λ v. known nil) h.top) (top_by (λ v. known nil));
  }

-- the words of a function's code take what comes
pub takes_by : (Takes : List Instruction → Type 0) {program : Program} {c : LuaState} {code : Code} {words : List Instruction} → HasCode program c.function code → words ≡ code.words.items → Takes words → TakesBy program c Takes
takes_by Takes {code = code} h e x = record { func = h.func; func_there = h.func_there; code = code; code_there = h.code_there; takes = subst Takes e x }

-- what was answered, or what is so where nothing was

pub some_so : {A P : Type 0} {o : Option A} {v : A} → o ≡ Some v → IfSome o (λ _. P) → P
some_so {P = P} e x = subst (λ o. IfSome o (λ _. P)) e x

pub none_so : {A P : Type 0} {o : Option A} → o ≡ None → IfNone o P → P
none_so {P = P} e x = subst (λ o. IfNone o P) e x

-- what is tried on a stack and a budget that are as they were

module _ (u : KeptStack) (left : ℕ) (o : Option (Unit {0})) {s t : KeptStack} {fuel now : ℕ} (e : t ≡ s) (n : now ≡ fuel) where
  pub crosses_still : (stop : Stop) → IfSome o (λ _. CrossesAt t u stop now left) → IfSome o (λ _. CrossesAt s u stop fuel left)
  crosses_still stop x = subst (λ (s : KeptStack). IfSome o (λ _. CrossesAt s u stop fuel left)) e (subst (λ (n : ℕ). IfSome o (λ _. CrossesAt t u stop n left)) n x)

  pub kept_still : IfNone o ((u ≡ t) × (left ≡ now)) → IfNone o ((u ≡ s) × (left ≡ fuel))
  kept_still x = none_then o (λ (k : (u ≡ t) × (left ≡ now)). (k.0 ∙ e, k.1 ∙ n)) x

-- a stack that is as it was may be left so

pub still_may : {s t : KeptStack} {stop : Stop} → t ≡ s → MayLeave s stop → MayLeave t stop
still_may {stop = stop} e m = subst (λ (s : KeptStack). MayLeave s stop) (sym e) m

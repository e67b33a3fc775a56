-- Moves on the own activation keep what is known of it.
use Rattle.std.proofs.Common.{ℕ, zero, suc, ◌+◌, ◌<◌, ◌≤◌, ◌≡◌, List, [], ◌∷◌, ◌++◌, Some, refl, subst, sym, ap, ◌∙◌, length, take, drop, arith, Bool, true, false}
use Rattle.std.specs.Prelude.{slice_get, cond, max, nat_eq, nat_le, nat_lt, not, ◌&&◌, IsSome, filter}
use Rattle.std.proofs.lemmas.Bool.Decides.{nat_tests}
use Rattle.int_core.specs.Value.{Value, known, nil, nth, range, write, write_all}
use Rattle.code_core.specs.Prototype.{Prototype}
use Rattle.machine_core.specs.World.{Cell, closed, open_at, Activation, close_from, find_open}
use Rattle.machine_core.specs.Text.{arg, behind, Own, write_register, write_registers, write_list, write_nils, end_list, cut_from, close_cells, mark_pending, take_pending, drop_pending, keep_results, keep_pending, effect, done, nils, blanked, last_pending, without_pending, is_there, is_pending}
use Rattle.machine_core.specs.Moves.{cells_after, cells_done}
use Rattle.machine_sound.specs.Sound.{Each, Sizes, Valid, Top}
use Rattle.machine_sound.specs.Safe.{stack_of, OwnReady, after_own, AllReady, after_all}
use Rattle.machine_sound.proofs.Lists.{each_none, each_cons, each_tail, each_push, each_take, each_drop, each_filter}
use Rattle.machine_sound.proofs.Values.{nth_ok, each_range, each_write, each_write_all, each_nils, each_blanked, length_range, length_write, length_write_all, length_nils, length_blanked, length_front, arg_valid}

-- what is known of an activation while moves are made, and of the cells
pub record OwnIs (z : Sizes) (old : List Cell) (p : Prototype) (co k : ℕ) (t : Top) (own : Activation) (cells : List Cell) : Type 0 where
  pub code : t.code ≡ p
  pub pc : own.pc ≡ t.pc
  pub size : length own.registers ≡ t.size
  pub opened : own.opened ≡ t.opened
  pub bound : Each (λ r. r < t.pending) own.pending
  pub stack : p.own.stack ≤ t.size
  pub registers : Each (Valid z) own.registers
  pub varargs : Each (Valid z) own.varargs
  pub pending : Each (λ r. r < p.own.stack) own.pending
  pub cells_below : (i r : ℕ) → slice_get cells i ≡ Some (open_at co k r) → r < t.cells
  pub cells_there : (i r : ℕ) → slice_get cells i ≡ Some (open_at co k r) → r < t.size
  pub still_open : (i d g r : ℕ) → slice_get cells i ≡ Some (open_at d g r) → slice_get old i ≡ Some (open_at d g r)
  pub closed_ok : (i : ℕ) (v : Value) → slice_get cells i ≡ Some (closed v) → Valid z v
  pub count : length cells ≡ length old
  pub captured : Each (λ r. IsSome (find_open co k r cells)) t.captured

-- closing cells

pub close_length : (co k r : ℕ) (vs : List Value) (cs : List Cell) → length (close_from co k r vs cs) ≡ length cs
close_length co k r vs [] = refl
close_length co k r vs (closed v ∷ cs) = ap suc (close_length co k r vs cs)
close_length co k r vs (open_at c f q ∷ cs) = ap suc (close_length co k r vs cs)

-- a cell that is open still was open before, and is not one of those that are closed
pub close_open : (co k r : ℕ) (vs : List Value) (cs : List Cell) (i d g q : ℕ) → slice_get (close_from co k r vs cs) i ≡ Some (open_at d g q) → (slice_get cs i ≡ Some (open_at d g q)) × (d ≡ co → g ≡ k → q < r)
close_open co k r vs [] i d g q h = absurd (cc)
close_open co k r vs (closed v ∷ cs) zero d g q h = absurd (cc)
close_open co k r vs (closed v ∷ cs) (suc i) d g q h = close_open co k r vs cs i d g q h
close_open co k r vs (open_at c f j ∷ cs) (suc i) d g q h = close_open co k r vs cs i d g q h
close_open co k r vs (open_at c f j ∷ cs) zero d g q h = pick (nat_eq co c) (nat_eq k f) (nat_lt j r) refl refl refl h
  where
    pick : (a b e : Bool) → nat_eq co c ≡ a → nat_eq k f ≡ b → nat_lt j r ≡ e → Some (cond (a && (b && not e)) (closed (nth vs j)) (open_at c f j)) ≡ Some (open_at d g q) → (Some (open_at c f j) ≡ Some (open_at d g q)) × (d ≡ co → g ≡ k → q < r)
    pick true true false x y w h = absurd (cc)
    pick true true true x y w h = (h, λ _ _. let s : j ≡ q = cc in let l : j < r = grind (arith, nat_tests) in omega arith)
    pick true false e x y w h = (h, λ _ m. let s : f ≡ g = cc in let s' : k ≡ f = m' s m in absurd (grind (arith, nat_tests)))
      where
        m' : f ≡ g → g ≡ k → k ≡ f
        m' s m = sym (s ∙ m)
    pick false b e x y w h = (h, λ m _. let s : c ≡ d = cc in let s' : co ≡ c = sym (s ∙ m) in absurd (grind (arith, nat_tests)))

module _ (P : Value → Type 0) (nil_ok : P (known nil)) where
  pub close_closed : (co k r : ℕ) (vs : List Value) (cs : List Cell) → Each P vs → ((i : ℕ) (v : Value) → slice_get cs i ≡ Some (closed v) → P v) → (i : ℕ) (v : Value) → slice_get (close_from co k r vs cs) i ≡ Some (closed v) → P v
  close_closed co k r vs [] h c i v e = absurd (cc)
  close_closed co k r vs (closed w ∷ cs) h c zero v e = c zero v e
  close_closed co k r vs (closed w ∷ cs) h c (suc i) v e = close_closed co k r vs cs h (λ i v e. c (suc i) v e) i v e
  close_closed co k r vs (open_at d f j ∷ cs) h c (suc i) v e = close_closed co k r vs cs h (λ i v e. c (suc i) v e) i v e
  close_closed co k r vs (open_at d f j ∷ cs) h c zero v e = pick (nat_eq co d && (nat_eq k f && not (nat_lt j r))) e
    where
      pick : (b : Bool) → Some (cond b (closed (nth vs j)) (open_at d f j)) ≡ Some (closed v) → P v
      pick true e = let s : nth vs j ≡ v = cc in subst P s (nth_ok P nil_ok vs j h)
      pick false e = absurd (cc)

filtered : (r : ℕ) (qs : List ℕ) → Each (λ q. q < r) (filter (λ q. nat_lt q r) qs)
filtered r [] = each_none (λ q. q < r)
filtered r (q ∷ qs) = pick (nat_lt q r) refl (filtered r qs)
  where
    pick : (b : Bool) → nat_lt q r ≡ b → Each (λ q. q < r) (filter (λ q. nat_lt q r) qs) → Each (λ q. q < r) (cond b (q ∷ filter (λ q. nat_lt q r) qs) (filter (λ q. nat_lt q r) qs))
    pick true e h = each_cons (λ q. q < r) q (filter (λ q. nat_lt q r) qs) (grind (arith, nat_tests)) h
    pick false e h = h

pub each_left : (P : ℕ → Type 0) (r : ℕ) (qs : List ℕ) → Each P qs → Each P (without_pending r qs)
each_left P r [] h = h
each_left P r (q ∷ qs) h = pick (is_there (last_pending r qs)) (nat_le r q) (each_left P r qs (each_tail P q qs h))
  where
    pick : (b c : Bool) → Each P (without_pending r qs) → Each P (cond b (q ∷ without_pending r qs) (cond c qs (q ∷ qs)))
    pick true c k = each_cons P q (without_pending r qs) (h zero q refl) k
    pick false true k = each_tail P q qs h
    pick false false k = h

module _ (z : Sizes) (old : List Cell) (p : Prototype) (co k : ℕ) (env : List Value) (valid : Each (Valid z) env) where
  abbrev pub Known : Top → Activation → List Cell → Type 0
  Known t own cells = OwnIs z old p co k t own cells

  -- another place, other registers, another end of the list, and other pending registers
  pub known_so : (t : Top) (own : Activation) (cells : List Cell) (h : Known t own cells) (at pc : ℕ) (runs : Bool) (size end opened n : ℕ) (vs : List Value) (qs : List ℕ) → at ≡ pc → opened ≡ end
      → length vs ≡ size → p.own.stack ≤ size → Each (Valid z) vs → ((i r : ℕ) → slice_get cells i ≡ Some (open_at co k r) → r < size) → Each (λ r. r < n) qs → Each (λ r. r < p.own.stack) qs
      → Known (record t { pc = pc; size = size; opened = end; pending = n; runs = runs }) (record own { pc = at; registers = vs; opened = opened; pending = qs }) cells
  known_so t own cells h at pc runs size end opened n vs qs here e l s v c b q =
      record { code = h.code; pc = here; size = l; opened = e; bound = b; stack = s; registers = v; varargs = h.varargs; pending = q; cells_below = h.cells_below; cells_there = c; still_open = h.still_open; closed_ok = h.closed_ok; count = h.count; captured = h.captured }

  changed : (t : Top) (own : Activation) (cells : List Cell) (h : Known t own cells) (size end opened n : ℕ) (vs : List Value) (qs : List ℕ) → opened ≡ end
      → length vs ≡ size → p.own.stack ≤ size → Each (Valid z) vs → ((i r : ℕ) → slice_get cells i ≡ Some (open_at co k r) → r < size) → Each (λ r. r < n) qs → Each (λ r. r < p.own.stack) qs
      → Known (record t { size = size; opened = end; pending = n }) (record own { registers = vs; opened = opened; pending = qs }) cells
  changed t own cells h size end opened n vs qs e l s v c b q = known_so t own cells h own.pc t.pc t.runs size end opened n vs qs h.pc e l s v c b q

  -- other registers
  other : (t : Top) (own : Activation) (cells : List Cell) (h : Known t own cells) (size opened : ℕ) (vs : List Value)
      → length vs ≡ size → p.own.stack ≤ size → Each (Valid z) vs → ((i r : ℕ) → slice_get cells i ≡ Some (open_at co k r) → r < size)
      → Known (record t { size = size; opened = opened }) (record own { registers = vs; opened = opened }) cells
  other t own cells h size opened vs l s v c = changed t own cells h size opened opened t.pending vs own.pending refl l s v c h.bound h.pending

  -- other registers, as many
  same_many : (t : Top) (own : Activation) (cells : List Cell) (h : Known t own cells) (vs : List Value) → length vs ≡ t.size → Each (Valid z) vs → Known t (record own { registers = vs }) cells
  same_many t own cells h vs l v = changed t own cells h t.size t.opened own.opened t.pending vs own.pending h.opened l h.stack v h.cells_there h.bound h.pending

  -- other pending registers
  other_pending : (t : Top) (own : Activation) (cells : List Cell) (h : Known t own cells) (n : ℕ) (qs : List ℕ) → Each (λ r. r < n) qs → Each (λ r. r < p.own.stack) qs → Known (record t { pending = n }) (record own { pending = qs }) cells
  other_pending t own cells h n qs b q = changed t own cells h t.size t.opened own.opened n own.registers qs h.opened h.size h.stack h.registers h.cells_there b q

  closing : (t : Top) (own : Activation) (cells : List Cell) (h : Known t own cells) (r : ℕ) → Known (record t { cells = r; captured = [] }) own (close_from co k r own.registers cells)
  closing t own cells h r = record {
    code = h.code;
    pc = h.pc;
    size = h.size;
    opened = h.opened;
    bound = h.bound;
    stack = h.stack;
    registers = h.registers;
    varargs = h.varargs;
    pending = h.pending;
    cells_below = λ i q e. (close_open co k r own.registers cells i co k q e).1 refl refl;
    cells_there = λ i q e. h.cells_there i q (close_open co k r own.registers cells i co k q e).0;
    still_open = λ i d g q e. h.still_open i d g q (close_open co k r own.registers cells i d g q e).0;
    closed_ok = close_closed (Valid z) tt co k r own.registers cells h.registers h.closed_ok;
    count = close_length co k r own.registers cells ∙ h.count;
    captured = each_none (λ r. IsSome (find_open co k r (close_from co k _ own.registers cells)));
  }

  -- registers that are the stack's alone, where no open cell is in the way
  low : (t : Top) (own : Activation) (cells : List Cell) (h : Known t own cells) (size : ℕ) → t.cells ≤ stack_of t → stack_of t ≤ size → (i r : ℕ) → slice_get cells i ≡ Some (open_at co k r) → r < size
  low t own cells h size c s i r e = let l = h.cells_below i r e in omega arith

  pub own_good : (m : Own) (t : Top) (own : Activation) (cells : List Cell) → OwnReady t m → Known t own cells → Known (after_own m env t) (effect m p env own) (cells_after m co k own cells)
  own_good (write_register r x) t own cells c h =
      let l = length_write r (arg env x) own.registers in
      let s = h.size in
      let c0 = c.0 in
      same_many t own cells h (write r (arg env x) own.registers) (omega arith) (each_write (Valid z) tt r (arg env x) own.registers (arg_valid z env x valid c.1) h.registers)
  own_good (write_registers at zero slot) t own cells c h = same_many t own cells h own.registers h.size h.registers
  own_good (write_registers at (suc count) slot) t own cells c h =
      let s = h.size in
      let l = length_write_all at (range slot (suc count) env) own.registers (omega arith) in
      let n = length_range slot (suc count) env in
      same_many t own cells h (write_all at (range slot (suc count) env) own.registers) (omega arith) (each_write_all (Valid z) tt at (range slot (suc count) env) own.registers (each_range (Valid z) tt slot (suc count) env valid) h.registers)
  own_good (write_nils at count) t own cells c h =
      let s = h.size in
      let l = length_write_all at (nils count) own.registers (omega arith) in
      let n = length_nils count in
      same_many t own cells h (write_all at (nils count) own.registers) (omega arith) (each_write_all (Valid z) tt at (nils count) own.registers (each_nils (Valid z) tt count) h.registers)
  own_good (write_list at slot) t own cells c h =
      let s = h.size in
      let l = length_write_all at (drop slot env) own.registers (omega arith) in
      let st = h.stack in
      other t own cells h (max t.size (at + length (drop slot env))) (length (drop slot env)) (write_all at (drop slot env) own.registers) (omega arith) (omega arith)
      (each_write_all (Valid z) tt at (drop slot env) own.registers (each_drop (Valid z) slot env valid) h.registers)
      (λ i r e. let q = h.cells_there i r e in omega arith)
  own_good end_list t own cells c h =
      let s = h.size in
      let st = h.stack in
      let q = ap (λ (p : Prototype). p.own.stack) h.code in
      other t own cells h (stack_of t) 0 (take p.own.stack own.registers) (length_front p.own.stack own.registers (omega arith) ∙ sym q) (omega arith)
      (each_take (Valid z) p.own.stack own.registers h.registers) (low t own cells h (stack_of t) c (omega arith))
  own_good (cut_from r) t own cells c h =
      let q = ap (λ (p : Prototype). p.own.stack) h.code in
      other t own cells h (stack_of t) 0 (blanked (λ i. nat_lt i r) 0 p.own.stack own.registers) (length_blanked (λ i. nat_lt i r) 0 p.own.stack own.registers ∙ sym q) (omega arith)
      (each_blanked (Valid z) tt (λ i. nat_lt i r) 0 p.own.stack own.registers h.registers) (low t own cells h (stack_of t) c (omega arith))
  own_good (close_cells r) t own cells c h = closing t own cells h r
  own_good (mark_pending r) t own cells c h =
      let q = ap (λ (p : Prototype). p.own.stack) h.code in
      let all = each_push (λ r. r < p.own.stack) own.pending r h.pending (let l = c.1 in omega arith) in
      other_pending t own cells h (stack_of t) (own.pending ++ r ∷ []) (subst (λ n. Each (λ r. r < n) (own.pending ++ r ∷ [])) (sym q) all) all
  own_good (take_pending r) t own cells c h =
      other_pending t own cells h t.pending (without_pending r own.pending) (each_left (λ r. r < t.pending) r own.pending h.bound) (each_left (λ r. r < p.own.stack) r own.pending h.pending)
  own_good (drop_pending r) t own cells c h =
      other_pending t own cells h r (filter (λ q. nat_lt q r) own.pending) (filtered r own.pending) (each_filter (λ q. q < p.own.stack) (λ q. nat_lt q r) own.pending h.pending)
  own_good (keep_results from count) t own cells c h =
      let q = ap (λ (p : Prototype). p.own.stack) h.code in
      other t own cells h (max (stack_of t) (behind from count)) 0 (blanked _ 0 (max p.own.stack (behind from count)) own.registers) (length_blanked _ 0 (max p.own.stack (behind from count)) own.registers ∙ ap (λ n. max n (behind from count)) (sym q)) (omega arith)
      (each_blanked (Valid z) tt _ 0 (max p.own.stack (behind from count)) own.registers h.registers) (low t own cells h (max (stack_of t) (behind from count)) c (omega arith))
  own_good keep_pending t own cells c h =
      let q = ap (λ (p : Prototype). p.own.stack) h.code in
      other t own cells h (stack_of t) 0 (blanked (is_pending own.pending) 0 p.own.stack own.registers) (length_blanked (is_pending own.pending) 0 p.own.stack own.registers ∙ sym q) (omega arith)
      (each_blanked (Valid z) tt (is_pending own.pending) 0 p.own.stack own.registers h.registers) (low t own cells h (stack_of t) c (omega arith))
  own_good _ t own cells c h = h

  pub all_good : (ms : List Own) (t : Top) (own : Activation) (cells : List Cell) → AllReady ms env t → Known t own cells → Known (after_all ms env t) (done ms p env own) (cells_done ms p co k env own cells)
  all_good [] t own cells c h = h
  all_good (m ∷ ms) t own cells c h = all_good ms (after_own m env t) (effect m p env own) (cells_after m co k own cells) c.1 (own_good m t own cells c.0 h)

-- Moves on one activation: what they read, tell and change is the same for activations that are the same.
use Rattle.std.proofs.Common.{ℕ, zero, suc, ◌+◌, ◌-◌, ◌≡◌, List, [], ◌∷◌, ◌++◌, Option, Some, None, refl, subst, ap, ◌∙◌, length, drop, Bool, filter}
use Rattle.std.specs.Prelude.{pos, max, nat_lt, nat_le, slice_get, ◌||◌, ◌&&◌}
use Rattle.code_core.specs.declared.proto.Const.{Const}
use Rattle.code_core.specs.Prototype.{Prototype}
use Rattle.code_core.specs.Check.{fixed, open_from, mark}
use Rattle.int_core.specs.Value.{a_coroutine, Value, known, nil, integer, boolean, is_known, nth, range, write, write_all}
use Rattle.machine_core.specs.World.{Activation, Cell}
use Rattle.machine_core.specs.Text.{behind, Arg, read, written, arg, args_of, Own, read_register, read_registers, read_list, read_constant, read_varargs, see, write_register, write_registers, write_list, write_nils, end_list, cut_from, close_cells, mark_pending, see_pending, take_pending, drop_pending, keep_results, keep_pending, constant, list_end, list_values, last_pending, without_pending, value_if, is_there, blanked, is_pending, nils, reads, tells, effect, fits, done}
use Rattle.machine_core.specs.Moves.{cells_after, cells_done}
use Rattle.machine_alike.specs.Agree.{Pairs, SameNumber, SameValue, same_known, SameValues, SameActivation, Objects, SameObjects}
use Rattle.machine_alike.proofs.Pairwise.{zip_length, zip_take, zip_drop, cond_rel}
use Rattle.machine_alike.proofs.Same.{shape_same, nth_same}
use Rattle.machine_alike.proofs.Cells.{close_same}
use Rattle.machine_alike.proofs.CellWrites.{write_same}

module _ (p : Pairs) where
  pub arg_same : (env other : List Value) (x : Arg) → SameValues p env other → SameValue p (arg env x) (arg other x)
  arg_same env other (read n) s = nth_same p env other n s
  arg_same env other (written plain) s = same_known plain

  pub args_same : (env other : List Value) (xs : List Arg) → SameValues p env other → SameValues p (args_of env xs) (args_of other xs)
  args_same env other [] s = tt
  args_same env other (x ∷ xs) s = (arg_same env other x s, args_same env other xs s)

  range_same : (from count : ℕ) (vs ws : List Value) → SameValues p vs ws → SameValues p (range from count vs) (range from count ws)
  range_same from zero vs ws h = tt
  range_same from (suc count) vs ws h = (nth_same p vs ws from h, range_same (suc from) count vs ws h)

  list_same : (from : ℕ) (end : Option ℕ) (vs ws : List Value) → SameValues p vs ws → SameValues p (list_values from vs end) (list_values from ws end)
  list_same from None vs ws h = tt
  list_same from (Some end) vs ws h = range_same from (end - from) vs ws h

  value_same : (place : Option ℕ) (vs ws : List Value) → SameValues p vs ws → SameValues p (value_if vs place) (value_if ws place)
  value_same None vs ws h = tt
  value_same (Some r) vs ws h = (nth_same p vs ws r h, tt)

  write_all_same : (at : ℕ) (us xs vs ws : List Value) → SameValues p us xs → SameValues p vs ws → SameValues p (write_all at us vs) (write_all at xs ws)
  write_all_same at [] [] vs ws s h = h
  write_all_same at [] (x ∷ xs) vs ws s h = absurd s
  write_all_same at (u ∷ us) [] vs ws s h = absurd s
  write_all_same at (u ∷ us) (x ∷ xs) vs ws s h = write_all_same (suc at) us xs (write at u vs) (write at x ws) s.1 (write_same p at u x vs ws s.0 h)

  nils_same : (count : ℕ) → SameValues p (nils count) (nils count)
  nils_same zero = tt
  nils_same (suc count) = (same_known nil, nils_same count)

  blanked_same : (keeps : ℕ → Bool) (i count : ℕ) (vs ws : List Value) → SameValues p vs ws → SameValues p (blanked keeps i count vs) (blanked keeps i count ws)
  blanked_same keeps i zero vs ws h = tt
  blanked_same keeps i (suc count) vs ws h = (cond_rel (SameValue p) (keeps i) (keeps i) (nth vs i) (known nil) (nth ws i) (known nil) refl (nth_same p vs ws i h) (same_known nil), blanked_same keeps (suc i) count vs ws h)

  constant_same : (o : Option Const) → SameValues p (elim o [ None ↦ [] | Some c ↦ known (constant c) ∷ [] ]) (elim o [ None ↦ [] | Some c ↦ known (constant c) ∷ [] ])
  constant_same None = tt
  constant_same (Some c) = (same_known (constant c), tt)

  end_by : (code : Prototype) (a b : Activation) → SameActivation p a b → list_end code a ≡ list_end code b
  end_by code a b h =
      ap (λ pc. elim (mark code pc) [ fixed ↦ None | open_from r ↦ Some (r + a.opened) ]) h.pc
      ∙ ap (λ opened. elim (mark code b.pc) [ fixed ↦ None | open_from r ↦ Some (r + opened) ]) h.opened

  -- what a list in front of pc holds
  listed_same : (code : Prototype) (from : ℕ) (a b : Activation) → SameActivation p a b → SameValues p (list_values from a.registers (list_end code a)) (list_values from b.registers (list_end code b))
  listed_same code from a b h = subst (λ end. SameValues p (list_values from a.registers (list_end code a)) (list_values from b.registers end)) (end_by code a b h) (list_same from (list_end code a) a.registers b.registers h.registers)

  last_same : (r : ℕ) (a b : Activation) → SameActivation p a b → last_pending r a.pending ≡ last_pending r b.pending
  last_same r a b h = ap (last_pending r) h.pending

  pub reads_same : (m : Own) (code : Prototype) (env other : List Value) (a b : Activation) → SameActivation p a b → SameValues p (reads m code env a) (reads m code other b)
  reads_same (read_register r) code env other a b h = (nth_same p a.registers b.registers r h.registers, tt)
  reads_same (read_registers from count) code env other a b h = range_same from count a.registers b.registers h.registers
  reads_same (read_list from) code env other a b h = listed_same code from a b h
  reads_same (read_constant n) code env other a b h = constant_same (slice_get code.own.constants n)
  reads_same read_varargs code env other a b h = h.varargs
  reads_same (see_pending r) code env other a b h = subst (λ place. SameValues p (value_if a.registers (last_pending r a.pending)) (value_if b.registers place)) (last_same r a b h) (value_same (last_pending r a.pending) a.registers b.registers h.registers)
  reads_same _ code env other a b h = tt

  pub tells_same : (m : Own) (code : Prototype) (env other : List Value) (a b : Activation) → SameValues p env other → SameActivation p a b → tells m code env a ≡ tells m code other b
  tells_same (read_register r) code env other a b s h = shape_same p (nth a.registers r) (nth b.registers r) (nth_same p a.registers b.registers r h.registers)
  tells_same (read_list from) code env other a b s h =
      ap (λ n. is_known (integer (pos n))) (zip_length (SameValue p) (list_values from a.registers (list_end code a)) (list_values from b.registers (list_end code b)) (listed_same code from a b h))
  tells_same (see x) code env other a b s h = shape_same p (arg env x) (arg other x) (arg_same env other x s)
  tells_same (see_pending r) code env other a b s h = ap (λ place. is_known (boolean (is_there place))) (last_same r a b h)
  tells_same _ code env other a b s h = refl

  length_same : (a b : Activation) → SameActivation p a b → length a.registers ≡ length b.registers
  length_same a b h = zip_length (SameValue p) a.registers b.registers h.registers

  pub fits_same : (m : Own) (code : Prototype) (a b : Activation) → SameActivation p a b → fits m code a ≡ fits m code b
  fits_same (read_register r) code a b h = ap (nat_lt r) (length_same a b h)
  fits_same (read_registers from count) code a b h = ap (nat_le (behind from count)) (length_same a b h)
  fits_same (read_list from) code a b h = ap is_there (end_by code a b h)
  fits_same (write_register r x) code a b h = ap (nat_lt r) (length_same a b h)
  fits_same (write_registers at count slot) code a b h = ap (nat_le (behind at count)) (length_same a b h)
  fits_same (write_list at slot) code a b h = ap (nat_lt at) (length_same a b h)
  fits_same (write_nils at count) code a b h = ap (nat_le (at + count)) (length_same a b h)
  fits_same (mark_pending r) code a b h = ap (nat_lt r) (length_same a b h)
  fits_same _ code a b h = refl

  with_registers : (a b : Activation) (vs ws : List Value) (m n : ℕ) → SameActivation p a b → SameValues p vs ws → m ≡ n → SameActivation p (record a { registers = vs; opened = m }) (record b { registers = ws; opened = n })
  with_registers a b vs ws m n h s e = record { pc = h.pc; registers = s; varargs = h.varargs; pending = h.pending; opened = e }

  with_pending : (a b : Activation) (f : List ℕ → List ℕ) → SameActivation p a b → SameActivation p (record a { pending = f a.pending }) (record b { pending = f b.pending })
  with_pending a b f h = record { pc = h.pc; registers = h.registers; varargs = h.varargs; pending = ap f h.pending; opened = h.opened }

  -- all but some registers are blanked, where the pending ones say which
  blanked_by : (keeps : List ℕ → ℕ → Bool) (count : ℕ) (a b : Activation) → SameActivation p a b → SameValues p (blanked (keeps a.pending) 0 count a.registers) (blanked (keeps b.pending) 0 count b.registers)
  blanked_by keeps count a b h = subst (λ pending. SameValues p (blanked (keeps a.pending) 0 count a.registers) (blanked (keeps pending) 0 count b.registers)) h.pending (blanked_same (keeps a.pending) 0 count a.registers b.registers h.registers)

  pub effect_same : (m : Own) (code : Prototype) (env other : List Value) (a b : Activation) → SameValues p env other → SameActivation p a b → SameActivation p (effect m code env a) (effect m code other b)
  effect_same (write_register r x) code env other a b s h = with_registers a b _ _ a.opened b.opened h (write_same p r (arg env x) (arg other x) a.registers b.registers (arg_same env other x s) h.registers) h.opened
  effect_same (write_registers at count slot) code env other a b s h = with_registers a b _ _ a.opened b.opened h (write_all_same at (range slot count env) (range slot count other) a.registers b.registers (range_same slot count env other s) h.registers) h.opened
  effect_same (write_list at slot) code env other a b s h =
      let d = zip_drop (SameValue p) slot env other s in
      with_registers a b _ _ _ _ h (write_all_same at (drop slot env) (drop slot other) a.registers b.registers d h.registers) (zip_length (SameValue p) (drop slot env) (drop slot other) d)
  effect_same (write_nils at count) code env other a b s h = with_registers a b _ _ a.opened b.opened h (write_all_same at (nils count) (nils count) a.registers b.registers (nils_same count) h.registers) h.opened
  effect_same end_list code env other a b s h = with_registers a b _ _ 0 0 h (zip_take (SameValue p) code.own.stack a.registers b.registers h.registers) refl
  effect_same (cut_from r) code env other a b s h = with_registers a b _ _ 0 0 h (blanked_same (λ i. nat_lt i r) 0 code.own.stack a.registers b.registers h.registers) refl
  effect_same (mark_pending r) code env other a b s h = with_pending a b (λ pending. pending ++ r ∷ []) h
  effect_same (take_pending r) code env other a b s h = with_pending a b (without_pending r) h
  effect_same (drop_pending r) code env other a b s h = with_pending a b (λ pending. filter (λ q. nat_lt q r) pending) h
  effect_same (keep_results from count) code env other a b s h = with_registers a b _ _ 0 0 h (blanked_by (λ pending i. is_pending pending i || (nat_le from i && nat_lt i (from + count))) (max code.own.stack (behind from count)) a b h) refl
  effect_same keep_pending code env other a b s h = with_registers a b _ _ 0 0 h (blanked_by is_pending code.own.stack a b h) refl
  effect_same _ code env other a b s h = h

  pub done_same : (ms : List Own) (code : Prototype) (env other : List Value) (a b : Activation) → SameValues p env other → SameActivation p a b → SameActivation p (done ms code env a) (done ms code other b)
  done_same [] code env other a b s h = h
  done_same (m ∷ ms) code env other a b s h = done_same ms code env other (effect m code env a) (effect m code other b) s (effect_same m code env other a b s h)

  abbrev SameAfter : Objects → Objects → List Cell → List Cell → Type 0
  SameAfter A B cs ds = SameObjects p (record A { cells = cs }) (record B { cells = ds })

  cells_after_same : (m : Own) (A B : Objects) (co co' f : ℕ) (a b : Activation) → SameObjects p A B → SameNumber p a_coroutine co co' → SameActivation p a b → SameAfter A B (cells_after m co f a A.cells) (cells_after m co' f b B.cells)
  cells_after_same (close_cells r) A B co co' f a b o at h = close_same p A B co co' f r a.registers b.registers o at h.registers
  cells_after_same _ A B co co' f a b o at h = o

  pub cells_done_same : (ms : List Own) (code : Prototype) (A B : Objects) (co co' f : ℕ) (env other : List Value) (a b : Activation) → SameObjects p A B → SameNumber p a_coroutine co co' → SameValues p env other → SameActivation p a b
      → SameAfter A B (cells_done ms code co f env a A.cells) (cells_done ms code co' f other b B.cells)
  cells_done_same [] code A B co co' f env other a b o at s h = o
  cells_done_same (m ∷ ms) code A B co co' f env other a b o at s h =
      cells_done_same ms code (record A { cells = cells_after m co f a A.cells }) (record B { cells = cells_after m co' f b B.cells }) co co' f env other (effect m code env a) (effect m code other b)
      (cells_after_same m A B co co' f a b o at h) at s (effect_same m code env other a b s h)

-- The registers of a numerical loop, and what its rows come to.
use Rattle.std.proofs.Common.{◌≡◌, ◌≢◌, ℕ, zero, suc, ◌+◌, List, [], ◌∷◌, ◌++◌, length, Option, Some, None, refl, ap, sym, subst, ◌∙◌, w64, to_z, of_z, Bool, true, false, Result, Ok, Err, IfOk}
use Rattle.std.specs.Prelude.{ℤ, pos, negsuc, codes, cond, FitsSigned}
use Rattle.std.proofs.lemmas.Int.{to_z-of_z}
use Rattle.int_core.specs.Arithmetic.{add, sub}
use Rattle.int_core.specs.Value.{Value, integer, known, shape, same_integer}
use Rattle.list_laws.proofs.Tests.{eq_not}
use Rattle.code_core.specs.Prototype.{Prototype}
use Rattle.machine_core.specs.Text.{Text, go_by, own, quick, pay, raise, read_register}
use Rattle.machine_core.specs.InstructionRows.{integer_of_shape, writes_integer, runs, rounds, next, back, starts, goes_round, with_loop}
use Rattle.machine_core.specs.FrameRows.{expand, raises}
use Rattle.machine_core.specs.Moves.{on_own, run, Row}
use Rattle.table_core.specs.declared.value.Value.{Value as Kept}
use Rattle.table_core.specs.declared.value.Value.TheVariants.{Nil}
use Rattle.lua_heap.specs.declared.world.World.{World as Memory}
use Rattle.lua_heap.specs.Reading.{value}
use Rattle.lua_heap.specs.Plain.{plain}
use Rattle.move_laws.specs.Memory.{Leads, Makes, Steps}
use Rattle.move_laws.proofs.Order.{is_spent, steps_of}
use Rattle.move_laws.proofs.Rows.{act_is}
use Rattle.machine_moves.specs.declared.ending.Ending.{Ending as Kept_ending}
use Rattle.machine_moves.specs.declared.ending.Ending.TheVariants.{Raised}
use Rattle.machine_moves.specs.Ending.{ending_of}
use Rattle.machine_arms_numbers.specs.Numbers.{integer_in}
use Rattle.machine_loops.specs.Loops.{ReadsLoop}
use Rattle.machine_arms_numbers.proofs.NumberRows.{shape_integer}

-- an integer that is put into a value
pub kept_integer : (n : ℤ) → FitsSigned w64 n → known (integer n) ≡ known (integer (to_z w64 (of_z w64 n)))
kept_integer n f = ap (λ n. known (integer n)) (sym (to_z-of_z w64 n f))

-- the same of one that is another
pub kept_count : (n m : ℤ) → n ≡ m → FitsSigned w64 n → known (integer m) ≡ known (integer (to_z w64 (of_z w64 n)))
kept_count n m e f = ap (λ k. known (integer k)) (sym e) ∙ kept_integer n f

-- what follows the first register, and the second
abbrev pub third_of : ℕ → (Option ℤ → Option ℤ → Option ℤ → Text) → Option ℤ → Option ℤ → Text
third_of base more i l = own (read_register (base + 2)) (λ _ d. more i l (integer_of_shape d))

abbrev pub second_of : ℕ → (Option ℤ → Option ℤ → Option ℤ → Text) → Option ℤ → Text
second_of base more i = own (read_register (base + 1)) (λ _ l. third_of base more i (integer_of_shape l))

pub loop_read : (W : Memory) (base : ℕ) (a b c : Kept) (i l d : Option ℤ)
    → ((env : List Value) → Makes W W (on_own (read_register base)) env (value W.strings a ∷ []) (shape (value W.strings a)))
    → ((env : List Value) → Makes W W (on_own (read_register (base + 1))) env (value W.strings b ∷ []) (shape (value W.strings b)))
    → ((env : List Value) → Makes W W (on_own (read_register (base + 2))) env (value W.strings c ∷ []) (shape (value W.strings c)))
    → i ≡ integer_in a → l ≡ integer_in b → d ≡ integer_in c → ReadsLoop W base i l d
loop_read W base a b c i l d f g h p q r = record {
  values = value W.strings a ∷ value W.strings b ∷ value W.strings c ∷ [];
  goes = λ more fuel.
      let V = plain W fuel in
      let x = value W.strings a in
      let y = value W.strings b in
      let z = value W.strings c in
      let end : Text → Rattle.machine_core.specs.Moves.Outcome = λ t. run (expand t) (x ∷ y ∷ z ∷ []) V in
      act_is (on_own (read_register base)) (λ _ s. expand (second_of base more (integer_of_shape s))) [] V V (x ∷ []) (shape x) ((f []).is fuel)
      ∙ act_is (on_own (read_register (base + 1))) (λ _ s. expand (third_of base more (integer_of_shape (shape x)) (integer_of_shape s))) (x ∷ []) V V (y ∷ []) (shape y) ((g (x ∷ [])).is fuel)
      ∙ act_is (on_own (read_register (base + 2))) (λ _ s. expand (more (integer_of_shape (shape x)) (integer_of_shape (shape y)) (integer_of_shape s))) (x ∷ y ∷ []) V V (z ∷ []) (shape z) ((h (x ∷ y ∷ [])).is fuel)
      ∙ ap (λ o. end (more o (integer_of_shape (shape y)) (integer_of_shape (shape z)))) (shape_integer W.strings a ∙ sym p)
      ∙ ap (λ o. end (more i o (integer_of_shape (shape z)))) (shape_integer W.strings b ∙ sym q)
      ∙ ap (λ o. end (more i l o)) (shape_integer W.strings c ∙ sym r);
}

-- which row that is

same_zero : (z : ℤ) → z ≡ pos 0 → same_integer z (pos 0) ≡ true
same_zero z e = ap (λ z. same_integer z (pos 0)) e

not_zero : (z : ℤ) → z ≢ pos 0 → same_integer z (pos 0) ≡ false
not_zero (pos zero) n = absurd (n refl)
not_zero (pos (suc m)) n = eq_not (suc m) 0 (λ e. n (ap pos e))
not_zero (negsuc m) n = refl

abbrev pub round_text : ℕ → ℕ → ℤ → ℤ → Text
round_text base by next left = writes_integer (base + 1) left (writes_integer base next (writes_integer (base + 3) next (back by)))

pub last_round : (base by : ℕ) (i count step : ℤ) → count ≡ pos 0 → goes_round base by (Some i) (Some count) (Some step) ≡ next
last_round base by i count step e = ap (λ b. cond b next (quick pay (λ _. round_text base by (add i step) (sub count (pos 1))))) (same_zero count e)

pub more_rounds : (base by : ℕ) (i count step : ℤ) → count ≢ pos 0 → goes_round base by (Some i) (Some count) (Some step) ≡ quick pay (λ _. round_text base by (add i step) (sub count (pos 1)))
more_rounds base by i count step n = ap (λ b. cond b next (quick pay (λ _. round_text base by (add i step) (sub count (pos 1))))) (not_zero count n)

abbrev pub begin_text : ℕ → ℤ → ℤ → ℤ → Text
begin_text base from limit step = writes_integer (base + 1) (rounds from limit step) (writes_integer (base + 3) from next)

pub no_step : (base by : ℕ) (from limit step : ℤ) → step ≡ pos 0 → starts base by from limit step ≡ raise (codes "'for' step is zero")
no_step base by from limit step e =
    ap (λ b. cond b (raise (codes "'for' step is zero")) (cond (runs from limit step) (begin_text base from limit step) (go_by (pos (by + 2))))) (same_zero step e)

pub begins : (base by : ℕ) (from limit step : ℤ) → step ≢ pos 0 → starts base by from limit step ≡ cond (runs from limit step) (begin_text base from limit step) (go_by (pos (by + 2)))
begins base by from limit step n =
    ap (λ b. cond b (raise (codes "'for' step is zero")) (cond (runs from limit step) (begin_text base from limit step) (go_by (pos (by + 2))))) (not_zero step n)

-- a row that comes to an error
module _ {E : Type 0} (W V : Memory) (r : Prototype → Row) (text : List ℕ) (h : (p : Prototype) → (vs : List Value) × ((fuel : ℕ) → run (r p) [] (plain W fuel) ≡ run (raises text) vs (plain W fuel))) where
  pub raised_as : (o : Result Kept_ending E) → IfOk o (λ e. (env : List Value) → Leads (raises text) env W V (ending_of e)) → IfOk o (λ e. (p : Prototype) → Leads (r p) [] W V (ending_of e))
  raised_as (Ok e) l = λ p. record { is = λ fuel. (h p).1 fuel ∙ (l (h p).0).is fuel }
  raised_as (Err x) l = tt

  pub raised_step : (fuel : ℕ) (o : Result Kept_ending E) → IfOk o (λ e. (env : List Value) → Leads (raises text) env W V (ending_of e)) → IfOk o (λ e. e ≡ Raised)
      → IfOk o (λ e. (p : Prototype) → Steps (r p) [] W fuel V fuel (ending_of e))
  raised_step fuel (Ok e) l k = λ p. steps_of fuel (λ n. subst (λ e. is_spent (ending_of e)) k n) (record { is = λ fuel. (h p).1 fuel ∙ (l (h p).0).is fuel })
  raised_step fuel (Err x) l k = tt

pub no_round : (base by : ℕ) (from limit step : ℤ) → step ≢ pos 0 → runs from limit step ≡ false → starts base by from limit step ≡ go_by (pos (by + 2))
no_round base by from limit step n r = begins base by from limit step n ∙ ap (λ b. cond b (begin_text base from limit step) (go_by (pos (by + 2)))) r

pub has_rounds : (base by : ℕ) (from limit step : ℤ) → step ≢ pos 0 → runs from limit step ≡ true → starts base by from limit step ≡ begin_text base from limit step
has_rounds base by from limit step n r = begins base by from limit step n ∙ ap (λ b. cond b (begin_text base from limit step) (go_by (pos (by + 2)))) r

pub same_round : (base by : ℕ) (i l d : Option ℤ) (at left step : ℤ) → i ≡ Some at → l ≡ Some left → d ≡ Some step → goes_round base by i l d ≡ goes_round base by (Some at) (Some left) (Some step)
same_round base by i l d at left step e f g =
    ap (λ o. goes_round base by o l d) e ∙ ap (λ o. goes_round base by (Some at) o d) f ∙ ap (λ o. goes_round base by (Some at) (Some left) o) g

-- the row of a loop whose registers are integers
pub loop_row : (W : Memory) (base by : ℕ) (i l d : Option ℤ) (at left step : ℤ) (text : Text) (x : ReadsLoop W base i l d) → i ≡ Some at → l ≡ Some left → d ≡ Some step → goes_round base by (Some at) (Some left) (Some step) ≡ text
    → (fuel : ℕ) → run (expand (with_loop base (goes_round base by))) [] (plain W fuel) ≡ run (expand text) x.values (plain W fuel)
loop_row W base by i l d at left step text x e f g h fuel =
    x.goes (goes_round base by) fuel ∙ ap (λ t. run (expand t) x.values (plain W fuel)) (same_round base by i l d at left step e f g ∙ h)

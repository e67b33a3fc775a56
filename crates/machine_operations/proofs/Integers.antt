-- Operators on two integers.
use Rattle.std.proofs.Common.{◌≡◌, ℕ, List, [], ◌∷◌, ◌++◌, Option, Some, None, ap, ap₂, sym, ◌∙◌, append-nil, Bool}
use Rattle.std.specs.Prelude.{ℤ}
use Rattle.int_core.specs.Operations.{Event, by_zero, computed}
use Rattle.int_core.specs.Value.{Value, shape, integer}
use Rattle.machine_core.specs.Text.{Own, written, read_register, read_constant, read_upvalue, write_register, raise, Text}
use Rattle.machine_core.specs.InstructionRows.{fast, integer_of_shape, skip, then}
use Rattle.machine_core.specs.FrameRows.{expand}
use Rattle.machine_core.specs.Moves.{on_own, outside, Ending, Row, act, run}
use Rattle.table_core.specs.declared.value.Value.{Value as Kept}
use Rattle.lua_heap.specs.declared.world.World.{World as Memory}
use Rattle.lua_heap.specs.Plain.{plain}
use Rattle.lua_heap.specs.Reading.{value}
use Rattle.instruction_forms.specs.declared.operand.Operand.{Operand}
use Rattle.instruction_forms.specs.declared.operand.Operand.TheVariants.{Register, Constant, Upvalue, Integer, Truth}
use Rattle.instruction_forms.specs.Forms.{with_integer}
use Rattle.move_laws.specs.Memory.{CanDo, IsSafe, Leads, Makes}
use Rattle.move_laws.proofs.Rows.{act_is, can_do}
use Rattle.machine_moves.specs.Code.{HasUpvalue}
use Rattle.machine_rows.proofs.Going.{safe_as}
use Rattle.machine_rows.proofs.Reading.{can_upvalue}
use Rattle.machine_operations.specs.Computing.{IsReadAsInteger, MayCompute, ReadsInteger, puts}

pub can_register : {W : Memory} {r : ℕ} → IsReadAsInteger W (Register r) → CanDo W (read_register r)
can_register {W} {r} i = can_do (read_register r) (λ _ s. expand (i.more (integer_of_shape s))) i.safe

pub can_constant : {W : Memory} {n : ℕ} → IsReadAsInteger W (Constant n) → CanDo W (read_constant n)
can_constant {W} {n} i = can_do (read_constant n) (λ _ s. expand (i.more (integer_of_shape s))) i.safe

pub has_upvalue : {W : Memory} {u : ℕ} → IsReadAsInteger W (Upvalue u) → HasUpvalue W u
has_upvalue {W} {u} i = can_upvalue (record { more = λ _. i.more None; env = i.env; safe = i.safe })

-- a move that tells a value
reads_own : (W : Memory) (m : Own) (v : Kept) (n : Option ℤ) → ((env : List Value) → Makes W W (on_own m) env (value W.strings v ∷ []) (shape (value W.strings v))) → n ≡ integer_of_shape (shape (value W.strings v))
    → (more : Option ℤ → Text) (env : List Value) (fuel : ℕ)
    → run (act (on_own m) (λ _ s. expand (more (integer_of_shape s)))) env (plain W fuel) ≡ run (expand (more n)) (env ++ value W.strings v ∷ []) (plain W fuel)
reads_own W m v n h e more env fuel =
    act_is (on_own m) (λ _ s. expand (more (integer_of_shape s))) env (plain W fuel) (plain W fuel) (value W.strings v ∷ []) (shape (value W.strings v)) ((h env).is fuel)
    ∙ ap (λ n. run (expand (more n)) (env ++ value W.strings v ∷ []) (plain W fuel)) (sym e)

pub reads_register : (W : Memory) (r : ℕ) (v : Kept) (n : Option ℤ) → ((env : List Value) → Makes W W (on_own (read_register r)) env (value W.strings v ∷ []) (shape (value W.strings v)))
    → n ≡ integer_of_shape (shape (value W.strings v)) → ReadsInteger W (Register r) n
reads_register W r v n h e = record { values = value W.strings v ∷ []; goes = reads_own W (read_register r) v n h e }

pub reads_constant : (W : Memory) (k : ℕ) (v : Kept) (n : Option ℤ) → ((env : List Value) → Makes W W (on_own (read_constant k)) env (value W.strings v ∷ []) (shape (value W.strings v)))
    → n ≡ integer_of_shape (shape (value W.strings v)) → ReadsInteger W (Constant k) n
reads_constant W k v n h e = record { values = value W.strings v ∷ []; goes = reads_own W (read_constant k) v n h e }

pub reads_upvalue : (W : Memory) (u : ℕ) (v : Kept) (t : Bool) → ((env : List Value) → Makes W W (outside (read_upvalue u)) env (value W.strings v ∷ []) t) → ReadsInteger W (Upvalue u) None
reads_upvalue W u v t h = record {
  values = value W.strings v ∷ [];
  goes = λ more env fuel. act_is (outside (read_upvalue u)) (λ _ _. expand (more None)) env (plain W fuel) (plain W fuel) (value W.strings v ∷ []) t ((h env).is fuel);
}

pub reads_integer : (W : Memory) (n : ℤ) → ReadsInteger W (Integer n) (Some n)
reads_integer W n = record { values = []; goes = λ more env fuel. ap (λ env. run (expand (more (Some n))) env (plain W fuel)) (sym (append-nil env)) }

pub reads_truth : (W : Memory) (b : Bool) → ReadsInteger W (Truth b) None
reads_truth W b = record { values = []; goes = λ more env fuel. ap (λ env. run (expand (more None)) env (plain W fuel)) (sym (append-nil env)) }

-- both operands, one after the other

module _ (W : Memory) (left right : Operand) (to : ℕ) (event : Event) where
  abbrev behind_left : Option ℤ → Text
  behind_left m = with_integer right (λ n. fast event to m n)

  abbrev row : Row
  row = expand (with_integer left behind_left)

  pub left_is_read : IsSafe row [] W → IsReadAsInteger W left
  left_is_read s = record { more = behind_left; env = []; safe = s }

  module _ {m : Option ℤ} (s : IsSafe row [] W) (r : ReadsInteger W left m) where
    safe_right : IsSafe (expand (behind_left m)) r.values W
    safe_right = safe_as {r = row} {q = expand (behind_left m)} {more = r.values} s (r.goes behind_left [])

    pub right_is_read : IsReadAsInteger W right
    right_is_read = record { more = fast event to m; env = r.values; safe = safe_right }

    pub both_read : {n : Option ℤ} → ReadsInteger W right n → MayCompute W event m n to
    both_read {n} q = record {
      env = r.values ++ q.values;
      safe = safe_as {r = expand (behind_left m)} {q = expand (fast event to m n)} {more = r.values ++ q.values} safe_right (q.goes (fast event to m) r.values);
    }

  pub computes_from : {m n : Option ℤ} {new : Memory} {ending : Ending} → ReadsInteger W left m → ReadsInteger W right n → ((env : List Value) → Leads (expand (fast event to m n)) env W new ending) → Leads row [] W new ending
  computes_from {m} {n} r q l =
      let k = l (r.values ++ q.values) in
      record { is = λ fuel. r.goes behind_left [] fuel ∙ q.goes (fast event to m) r.values fuel ∙ k.is fuel }

-- what an operator comes to

pub same_computed : (event : Event) {m n p q : ℤ} {o : Option ℤ} → p ≡ m → q ≡ n → o ≡ computed event p q → computed event m n ≡ o
same_computed event a b e = sym (e ∙ ap₂ (computed event) a b)

pub fast_found : (event : Event) (to : ℕ) (m n k : ℤ) → computed event m n ≡ Some k → fast event to (Some m) (Some n) ≡ puts to k
fast_found event to m n k e = ap (λ o. elim o as (λ _. Text) [ None ↦ raise (by_zero event) | Some k ↦ then (write_register to (written (integer k))) skip ]) e

pub fast_fails : (event : Event) (to : ℕ) (m n : ℤ) → computed event m n ≡ None → fast event to (Some m) (Some n) ≡ raise (by_zero event)
fast_fails event to m n e = ap (λ o. elim o as (λ _. Text) [ None ↦ raise (by_zero event) | Some k ↦ then (write_register to (written (integer k))) skip ]) e

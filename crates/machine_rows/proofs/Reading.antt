-- Operands that are read.
use Rattle.std.proofs.Common.{◌≡◌, ℕ, List, [], ◌∷◌, ◌++◌, length, Option, Some, None, refl, ap, sym, ◌∙◌, append-nil}
use Rattle.std.specs.Prelude.{ℤ, Bool, true, is_some, slice_get}
use Rattle.int_core.specs.Value.{Value, Plain, known, integer, boolean, shape, nth}
use Rattle.machine_core.specs.World.{read_cell}
use Rattle.machine_core.specs.Text.{Arg, Text, read, written, read_register, read_constant, read_upvalue}
use Rattle.machine_core.specs.FrameRows.{expand}
use Rattle.machine_core.specs.Moves.{Made, on_own, outside, move, Outcome, trapped, run}
use Rattle.machine_sound.specs.Sound.{sizes, Valid, Sound}
use Rattle.machine_sound.proofs.Lists.{bind_at, get_push_new, get_push_old}
use Rattle.table_core.specs.declared.value.Value.{Value as Kept}
use Rattle.table_core.specs.declared.value.Value.TheVariants.{Bool as Boolean, Int}
use Rattle.lua_heap.specs.declared.world.World.{World as Memory}
use Rattle.lua_heap.specs.Changes.{value_in}
use Rattle.lua_heap.specs.Plain.{plain}
use Rattle.lua_heap.specs.Reading.{value}
use Rattle.instruction_forms.specs.Forms.{with_operand}
use Rattle.instruction_forms.specs.declared.operand.Operand.{Operand}
use Rattle.instruction_forms.specs.declared.operand.Operand.TheVariants.{Register, Constant, Upvalue, Integer, Truth}
use Rattle.move_laws.specs.Memory.{CanDo, Makes}
use Rattle.move_laws.proofs.Running.{nth_is}
use Rattle.move_laws.proofs.Rows.{act_is, can_do}
use Rattle.machine_moves.specs.Code.{HasUpvalue}
use Rattle.move_laws.proofs.Valid.{upvalue_read, register_valid, constant_valid, upvalue_valid}
use Rattle.machine_rows.specs.Rows.{IsRead, Reads}

-- what there is where a safe row reads an operand

pub can_register : {W : Memory} {r : ℕ} → IsRead W (Register r) → CanDo W (read_register r)
can_register {W} {r} i = can_do (read_register r) (λ n _. expand (i.more (read n))) i.safe

pub can_constant : {W : Memory} {n : ℕ} → IsRead W (Constant n) → CanDo W (read_constant n)
can_constant {W} {n} i = can_do (read_constant n) (λ n _. expand (i.more (read n))) i.safe

upvalue_at : (W : Memory) (u : ℕ) (env : List Value) (d : Made Bool) → move (outside (read_upvalue u)) env (plain W 0) ≡ Some d → HasUpvalue W u
upvalue_at W u env d m =
    let V = plain W 0 in
    let r = upvalue_read V u env d m in
    let is : value_in V r.number ≡ Some r.value = bind_at (read_cell V) (slice_get V.cells r.number) r.cell r.there ∙ r.read_is in
    record { place = r.place; is = r.is; cell = r.number; there = r.named; value = ap is_some is }

pub can_upvalue : {W : Memory} {u : ℕ} → IsRead W (Upvalue u) → HasUpvalue W u
can_upvalue {W} {u} i = by (move (outside (read_upvalue u)) i.env (plain W 0)) refl
  where
    by : (o : Option (Made Bool)) → move (outside (read_upvalue u)) i.env (plain W 0) ≡ o → HasUpvalue W u
    by (Some d) e = upvalue_at W u i.env d e
    by None e = absurd (i.safe.never 0 (ap (λ o. elim o as (λ _. Outcome) [ None ↦ trapped | Some d ↦ run (expand (i.more (read (length i.env)))) (i.env ++ d.values) d.world ]) e))

-- what a row goes on with

behind_all : (env : List Value) (v : Value) → nth (env ++ v ∷ []) (length env) ≡ v
behind_all env v = nth_is (env ++ v ∷ []) (length env) v (get_push_new env v)

among_all : (env more : List Value) (v : Value) → nth (env ++ v ∷ [] ++ more) (length env) ≡ v
among_all env more v = nth_is (env ++ v ∷ [] ++ more) (length env) v (get_push_old (env ++ v ∷ []) more (length env) v (get_push_new env v))

-- a value that is read is the last of those that a row has then
one_read : (W : Memory) (from : Operand) (v : Kept)
    → ((more : Arg → Text) (env : List Value) (fuel : ℕ) → run (expand (with_operand from more)) env (plain W fuel) ≡ run (expand (more (read (length env)))) (env ++ value W.strings v ∷ []) (plain W fuel))
    → ((primitives : ℕ) → Sound primitives (plain W 0) → Valid (sizes primitives (plain W 0)) (value W.strings v)) → Reads W from v
one_read W from v goes valid = record {
  values = value W.strings v ∷ [];
  named = read;
  goes = goes;
  is = λ env. behind_all env (value W.strings v);
  stays = λ env more. among_all env more (value W.strings v);
  valid = valid;
}

-- one that stands in the row is none of them
none_read : (W : Memory) (from : Operand) (v : Kept) (p : Plain) → value W.strings v ≡ known p
    → ((more : Arg → Text) (env : List Value) (fuel : ℕ) → run (expand (with_operand from more)) env (plain W fuel) ≡ run (expand (more (written p))) env (plain W fuel))
    → ((primitives : ℕ) → Sound primitives (plain W 0) → Valid (sizes primitives (plain W 0)) (value W.strings v)) → Reads W from v
none_read W from v p same goes valid = record {
  values = [];
  named = λ _. written p;
  goes = λ more env fuel. goes more env fuel ∙ ap (λ env. run (expand (more (written p))) env (plain W fuel)) (sym (append-nil env));
  is = λ env. sym same;
  stays = λ env more. sym same;
  valid = valid;
}

pub reads_register : (W : Memory) (r : ℕ) (v : Kept) → ((env : List Value) → Makes W W (on_own (read_register r)) env (value W.strings v ∷ []) (shape (value W.strings v))) → Reads W (Register r) v
reads_register W r v h =
    one_read W (Register r) v (λ more env fuel. act_is (on_own (read_register r)) (λ n _. expand (more (read n))) env (plain W fuel) (plain W fuel) (value W.strings v ∷ []) (shape (value W.strings v)) ((h env).is fuel))
    (λ n s. register_valid n (plain W 0) (plain W 0) r [] (value W.strings v) (shape (value W.strings v)) s ((h []).is 0))

pub reads_constant : (W : Memory) (n : ℕ) (v : Kept) → ((env : List Value) → Makes W W (on_own (read_constant n)) env (value W.strings v ∷ []) (shape (value W.strings v))) → Reads W (Constant n) v
reads_constant W n v h =
    one_read W (Constant n) v (λ more env fuel. act_is (on_own (read_constant n)) (λ n _. expand (more (read n))) env (plain W fuel) (plain W fuel) (value W.strings v ∷ []) (shape (value W.strings v)) ((h env).is fuel))
    (λ k s. constant_valid k (plain W 0) (plain W 0) n [] (value W.strings v) (shape (value W.strings v)) s ((h []).is 0))

pub reads_upvalue : (W : Memory) (u : ℕ) (v : Kept) → ((env : List Value) → Makes W W (outside (read_upvalue u)) env (value W.strings v ∷ []) true) → Reads W (Upvalue u) v
reads_upvalue W u v h =
    one_read W (Upvalue u) v (λ more env fuel. act_is (outside (read_upvalue u)) (λ n _. expand (more (read n))) env (plain W fuel) (plain W fuel) (value W.strings v ∷ []) true ((h env).is fuel))
    (λ n s. upvalue_valid n (plain W 0) (plain W 0) u [] (value W.strings v) true s ((h []).is 0))

pub reads_integer : (W : Memory) (n : ℤ) → Reads W (Integer n) (Int n)
reads_integer W n = none_read W (Integer n) (Int n) (integer n) refl (λ more env fuel. refl) (λ k s. tt)

pub reads_truth : (W : Memory) (b : Bool) → Reads W (Truth b) (Boolean b)
reads_truth W b = none_read W (Truth b) (Boolean b) (boolean b) refl (λ more env fuel. refl) (λ k s. tt)

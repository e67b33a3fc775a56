-- Rows of instructions that pay for nothing.
use Rattle.std.proofs.Common.{ℕ, zero, suc, ◌+◌, [], ◌∷◌, Option, Some, None, Bool, true, false, cond}
use Rattle.std.specs.Prelude.{ℤ, pos, List, ◌*◌}
use Rattle.code_core.specs.declared.proto.UpDesc.{UpDesc}
use Rattle.code_core.specs.Prototype.{Prototype}
use Rattle.code_core.specs.Check.{extra_at}
use Rattle.int_core.specs.Operations.{Event, computed, by_zero}
use Rattle.int_core.specs.Value.{Shape, is_object, a_table, integer, holds, same_integer}
use Rattle.machine_core.specs.Text.{read, written, write_register, mark_pending, Text, trap, raise, open_cell, quick, make_function, go_by, closable}
use Rattle.machine_core.specs.InstructionRows.{next, skip, then, fast, integer_of_shape, prepares, runs, rounds, starts, writes_integer, write_values, variable_name, opens, fills_each, fills_from, to_register, upvalues_of_inner, with_extra}
use Rattle.machine_core.specs.FrameRows.{at_once}
use Rattle.instruction_forms.specs.declared.operand.Operand.{Operand}
use Rattle.instruction_forms.specs.declared.operand.Operand.TheVariants.{Register, Constant, Upvalue, Integer, Truth}
use Rattle.instruction_forms.specs.declared.operand.Operator.{Operator}
use Rattle.instruction_forms.specs.declared.form.Form.TheVariants.{Arithmetic, ExtraArguments, FillTable, Mark, NewFunction, StartLoop}
use Rattle.instruction_forms.specs.Forms.{event_of, fills_behind, fills_registers, text_of, with_integer}
use Rattle.step_laws.proofs.Free.{PaysNone}

-- texts that pay for nothing, and ask for no call
abbrev pub IsUnpaid : Text → Type 0
IsUnpaid t = PaysNone at_once t

-- the forms that are so

cond_unpaid : (b : Bool) (t u : Text) → IsUnpaid t → IsUnpaid u → IsUnpaid (cond b t u)
cond_unpaid true t u f g = f
cond_unpaid false t u f g = g

starts_unpaid : (a bx : ℕ) (from limit step : ℤ) → IsUnpaid (starts a bx from limit step)
starts_unpaid a bx from limit step =
    cond_unpaid (same_integer step (pos 0)) _ _ tt
    (cond_unpaid (runs from limit step) (writes_integer (a + 1) (rounds from limit step) (writes_integer (a + 3) from next)) _ (λ _ _ _ _. tt) tt)

prepares_unpaid : (a bx : ℕ) (from limit step : Option ℤ) → IsUnpaid (prepares a bx from limit step)
prepares_unpaid a bx from None step = tt
prepares_unpaid a bx from (Some limit) None = tt
prepares_unpaid a bx None (Some limit) (Some step) = tt
prepares_unpaid a bx (Some from) (Some limit) (Some step) = starts_unpaid a bx from limit step

pub start_unpaid : (p : Prototype) (pc base by : ℕ) → IsUnpaid (text_of p pc (StartLoop base by))
start_unpaid p pc base by = λ _ i _ l _ d. prepares_unpaid base by (integer_of_shape i) (integer_of_shape l) (integer_of_shape d)

pub mark_unpaid : (p : Prototype) (pc register ahead : ℕ) → IsUnpaid (text_of p pc (Mark register ahead))
mark_unpaid p pc register ahead = λ v s. cond_unpaid (holds s) (closable (read v) (variable_name p pc register) (then (mark_pending register) (go_by (pos ahead)))) (go_by (pos ahead)) (λ _ _. tt) tt

fast_by : (event : Event) (r : ℕ) (o : Option ℤ) → IsUnpaid (elim o [ None ↦ raise (by_zero event) | Some k ↦ then (write_register r (written (integer k))) skip ])
fast_by event r None = tt
fast_by event r (Some k) = λ _ _. tt

fast_unpaid : (event : Event) (r : ℕ) (m n : Option ℤ) → IsUnpaid (fast event r m n)
fast_unpaid event r (Some m) (Some n) = fast_by event r (computed event m n)
fast_unpaid event r (Some m) None = tt
fast_unpaid event r None n = tt

integer_unpaid : (from : Operand) (k : Option ℤ → Text) → ((m : Option ℤ) → IsUnpaid (k m)) → IsUnpaid (with_integer from k)
integer_unpaid (Register r) k h = λ _ s. h (integer_of_shape s)
integer_unpaid (Constant n) k h = λ _ s. h (integer_of_shape s)
integer_unpaid (Upvalue u) k h = λ _. h None
integer_unpaid (Integer n) k h = h (Some n)
integer_unpaid (Truth b) k h = h None

pub arithmetic_unpaid : (p : Prototype) (pc : ℕ) (operator : Operator) (left right : Operand) (to : ℕ) → IsUnpaid (text_of p pc (Arithmetic operator left right to))
arithmetic_unpaid p pc operator left right to =
    integer_unpaid left (λ m. with_integer right (λ n. fast (event_of operator) to m n)) (λ m. integer_unpaid right (λ n. fast (event_of operator) to m n) (λ n. fast_unpaid (event_of operator) to m n))

write_unpaid : (r n slot : ℕ) → IsUnpaid (write_values r n slot)
write_unpaid r zero slot = λ _ _. tt
write_unpaid r (suc n) slot = λ _ _. tt

pub extra_unpaid : (p : Prototype) (pc to count : ℕ) → IsUnpaid (text_of p pc (ExtraArguments to count))
extra_unpaid p pc to count = λ v _. write_unpaid to count v

-- functions that are made, and lists that fill tables

opens_unpaid : (us : List UpDesc) (t : Text) → IsUnpaid t → IsUnpaid (opens us t)
opens_unpaid [] t h = h
opens_unpaid (u ∷ us) t h = cond_unpaid u.in_stack (open_cell u.index (opens us t)) (opens us t) (opens_unpaid us t h) (opens_unpaid us t h)

pub function_unpaid : (p : Prototype) (pc inner to : ℕ) → IsUnpaid (text_of p pc (NewFunction inner to))
function_unpaid p pc inner to = opens_unpaid (upvalues_of_inner p inner) (quick (make_function inner) (λ f. to_register to (read f))) (λ f _ _. tt)

each_unpaid : (n t r last : ℕ) (z : ℤ) → IsUnpaid (fills_each n t r last z)
each_unpaid zero t r last z = λ _ _. tt
each_unpaid (suc n) t r last z = λ _ _ _. each_unpaid n t (suc r) (suc last) z

from_unpaid : (n t r last : ℕ) (z : ℤ) → IsUnpaid (fills_from n t r last z)
from_unpaid zero t r last z = λ _ _ _ _ _. tt
from_unpaid (suc n) t r last z = each_unpaid (suc n) t r last z

fills_unpaid : (s : Shape) (t table count last : ℕ) (z : ℤ) → IsUnpaid (fills_registers s t table count last z)
fills_unpaid (is_object a_table) t table count last z = from_unpaid count t (table + 1) last z
fills_unpaid _ t table count last z = tt

extra_by : (o : Option ℕ) (k : ℕ → Text) → ((n : ℕ) → IsUnpaid (k n)) → IsUnpaid (elim o [ None ↦ trap | Some n ↦ k n ])
extra_by None k h = tt
extra_by (Some n) k h = h n

pub fill_unpaid : (p : Prototype) (pc table count last : ℕ) (far : Bool) → IsUnpaid (text_of p pc (FillTable table count last far))
fill_unpaid p pc table count last far =
    cond_unpaid far (with_extra p pc (λ ax. fills_behind table count (last + 256 * ax) (pos 2))) (fills_behind table count last (pos 1))
    (extra_by (extra_at p pc) (λ ax. fills_behind table count (last + 256 * ax) (pos 2)) (λ ax t s. fills_unpaid s t table count (last + 256 * ax) (pos 2)))
    (λ t s. fills_unpaid s t table count last (pos 1))

-- What an instruction of a form does, in the words of the machine's rows (lvm.c of Lua 5.4).
use Rattle.std.specs.Prelude.{ℕ, suc, zero, ◌+◌, ◌*◌, ◌-◌, ◌==◌, ℤ, pos, Bool, true, false, cond, not, List, [], ◌∷◌, ◌++◌, Option, Some, None, codes}
use Rattle.code_core.specs.Prototype.{Prototype}
use Rattle.int_core.specs.Operations.{Event, of_add, of_sub, of_mul, of_mod, of_idiv, of_band, of_bor, of_bxor, of_shl, of_shr, of_unm, of_bnot, type_name, Operation, index, store, arithmetic, length', equal, less, less_equal}
use Rattle.int_core.specs.Value.{nil, boolean, integer, a_table, Shape, is_known, is_object, holds, same_truth, same_plain}
use Rattle.machine_core.specs.World.{Wait, for_call, for_iterator, for_value, for_truth, dropped}
use Rattle.machine_core.specs.Text.{Arg, read, written, Own, read_register, read_constant, read_varargs, see, write_register, write_nils, cut_from, drop_pending, read_upvalue, write_upvalue, make_table, make_function, pay, Text, go_by, own, quick, operate, call, tail_call, raise}
use Rattle.machine_core.specs.InstructionRows.{next, skip, then, to_register, integer_of_shape, counted, returns, closes, read_values, write_values, fills_from, joins, tested, to_register_before, swapped as in_order, fast, with_loop, prepares, goes_round, back, jumps, marks, opens, upvalues_of_inner, with_extra}
use Rattle.instruction_forms.specs.declared.operand.Operand.{Operand}
use Rattle.instruction_forms.specs.declared.operand.Operand.TheVariants.{Register, Constant, Upvalue, Integer, Truth}
use Rattle.instruction_forms.specs.declared.operand.Operands.{Operands}
use Rattle.instruction_forms.specs.declared.operand.Operands.TheVariants.{One, Twice, Two, Three}
use Rattle.instruction_forms.specs.declared.operand.Operator.{Operator}
use Rattle.instruction_forms.specs.declared.operand.Operator.TheVariants.{Add, Sub, Mul, Mod, IDiv, BAnd, BOr, BXor, Shl, Shr, Unm, BNot}
use Rattle.instruction_forms.specs.declared.operand.Operation.{Operation as Named}
use Rattle.instruction_forms.specs.declared.operand.Operation.TheVariants.{Index, Store, Arithmetic as ByOperator, Length, Equal, Less, LessEqual}
use Rattle.instruction_forms.specs.declared.form.After.{After}
use Rattle.instruction_forms.specs.declared.form.After.TheVariants.{ToRegister, ToRegisterBefore, Next as NoValue, Tests}
use Rattle.instruction_forms.specs.declared.form.Form.{Form}
use Rattle.instruction_forms.specs.declared.form.Form.TheVariants.{Next, Load, LoadFar, Clear, StoreUpvalue, Operate, Arithmetic, Negate, Concatenate, Close, Mark, Jump, Test, TestSet, StartLoop, Loop, LoopOver, Call, TailCall, Return, ReturnSome, NewTable, FillTable, NewFunction, ExtraArguments}

-- operations and operands

abbrev pub event_of : Operator → Event
event_of Add = of_add
event_of Sub = of_sub
event_of Mul = of_mul
event_of Mod = of_mod
event_of IDiv = of_idiv
event_of BAnd = of_band
event_of BOr = of_bor
event_of BXor = of_bxor
event_of Shl = of_shl
event_of Shr = of_shr
event_of Unm = of_unm
event_of BNot = of_bnot

abbrev pub operation_of : Named → Operation
operation_of Index = index
operation_of Store = store
operation_of (ByOperator operator) = arithmetic (event_of operator)
operation_of Length = length'
operation_of Equal = equal
operation_of Less = less
operation_of LessEqual = less_equal

-- a value is read, and named
abbrev pub with_operand : Operand → (Arg → Text) → Text
with_operand (Register r) k = own (read_register r) (λ v _. k (read v))
with_operand (Constant n) k = own (read_constant n) (λ v _. k (read v))
with_operand (Upvalue u) k = quick (read_upvalue u) (λ v. k (read v))
with_operand (Integer n) k = k (written (integer n))
with_operand (Truth b) k = k (written (boolean b))

abbrev pub with_operands : Operands → (List Arg → Text) → Text
with_operands (One x) k = with_operand x (λ v. k (v ∷ []))
with_operands (Twice x) k = with_operand x (λ v. k (v ∷ v ∷ []))
with_operands (Two x y swapped) k = with_operand x (λ v. with_operand y (λ w. k (in_order swapped v w)))
with_operands (Three x y z) k = with_operand x (λ v. with_operand y (λ w. with_operand z (λ u. k (v ∷ w ∷ u ∷ []))))

-- a value is read, and told where it is an integer
abbrev pub with_integer : Operand → (Option ℤ → Text) → Text
with_integer (Register r) k = own (read_register r) (λ _ s. k (integer_of_shape s))
with_integer (Constant n) k = own (read_constant n) (λ _ s. k (integer_of_shape s))
with_integer (Upvalue u) k = quick (read_upvalue u) (λ _. k None)
with_integer (Integer n) k = k (Some n)
with_integer (Truth b) k = k None

-- what becomes of a value

abbrev pub wait_for : After → Wait Arg
wait_for (ToRegister r) = for_value
wait_for ToRegisterBefore = for_value
wait_for NoValue = dropped
wait_for (Tests wanted) = for_truth

-- the value is slot 0
abbrev pub follows : Prototype → ℕ → After → Text
follows p pc (ToRegister r) = to_register r (read 0)
follows p pc ToRegisterBefore = to_register_before p pc
follows p pc NoValue = next
follows p pc (Tests wanted) = own (see (read 0)) (λ _ s. tested (holds s) wanted)

abbrev pub also_to : Option ℕ → List Arg → List Own
also_to (Some r) (x ∷ xs) = write_register r x ∷ []
also_to _ _ = []

-- lists of values

abbrev pub fills_registers : Shape → (t : ℕ) → (table count last : ℕ) → ℤ → Text
fills_registers (is_object a_table) t table count last behind = fills_from count t (table + 1) last behind
fills_registers s t table count last behind = raise (codes "attempt to index a " ++ type_name s ++ codes " value")

abbrev pub fills_behind : (table count last : ℕ) → ℤ → Text
fills_behind table count last behind = own (read_register table) (λ t s. fills_registers s t table count last behind)

abbrev pub wait_for_call : Bool → Wait Arg
wait_for_call true = for_iterator
wait_for_call false = for_call

-- what a form does at a place of code
abbrev pub text_of : Prototype → ℕ → Form → Text
text_of p pc Next = next
text_of p pc (Load from to skips) = with_operand from (λ v. then (write_register to v) (cond skips skip next))
text_of p pc (LoadFar to) = with_extra p pc (λ ax. own (read_constant ax) (λ v _. then (write_register to (read v)) skip))
text_of p pc (Clear from count) = then (write_nils from count) next
text_of p pc (StoreUpvalue from upvalue) = own (read_register from) (λ v _. quick (write_upvalue upvalue (read v)) (λ _. next))
text_of p pc (Operate operation xs also after) = with_operands xs (λ vs. operate (operation_of operation) vs (wait_for after) (also_to also vs) (follows p pc after))
text_of p pc (Arithmetic operator left right to) = with_integer left (λ m. with_integer right (λ n. fast (event_of operator) to m n))
text_of p pc (Negate from to) = own (read_register from) (λ _ s. to_register to (written (boolean (not (holds s)))))
text_of p pc (Concatenate first count) = elim count [
  | zero ↦ next
  | suc n ↦ own (read_register (first + n)) (λ v _. joins first n (read v))
]
text_of p pc (Close from) = closes from
text_of p pc (Mark register ahead) = marks p pc register (go_by (pos ahead))
text_of p pc (Jump by) = jumps by
text_of p pc (Test register wanted) = own (read_register register) (λ _ s. tested (holds s) wanted)
text_of p pc (TestSet from to wanted) = own (read_register from) (λ v s. cond (same_truth (holds s) wanted) (to_register to (read v)) skip)
text_of p pc (StartLoop base by) = with_loop base (prepares base by)
text_of p pc (Loop base by) = with_loop base (goes_round base by)
text_of p pc (LoopOver base by) = own (read_register (base + 4)) (λ v s. elim s [
  | is_known k ↦ cond (same_plain k nil) next (quick pay (λ _. then (write_register (base + 2) (read v)) (back by)))
  | is_object kind ↦ quick pay (λ _. then (write_register (base + 2) (read v)) (back by))
])
text_of p pc (Call function count keeps iterates) =
    own (read_register function) (λ f _. read_values (function + 1) count (λ v _. call (read f) v (wait_for_call iterates) (drop_pending keeps ∷ cut_from keeps ∷ [])))
text_of p pc (TailCall function count) = own (read_register function) (λ f _. read_values (function + 1) count (λ v _. tail_call (read f) v))
text_of p pc (Return from count) = read_values from count (λ _ s. returns from (cond (count == 0) (counted s) (count - 1)))
text_of p pc (ReturnSome from count) = returns from count
text_of p pc (NewTable to) = with_extra p pc (λ _. quick make_table (λ t. then (write_register to (read t)) skip))
text_of p pc (FillTable table count last far) =
    cond far (with_extra p pc (λ ax. fills_behind table count (last + 256 * ax) (pos 2))) (fills_behind table count last (pos 1))
text_of p pc (NewFunction inner to) = opens (upvalues_of_inner p inner) (quick (make_function inner) (λ f. to_register to (read f)))
text_of p pc (ExtraArguments to count) = own read_varargs (λ v _. write_values to count v)

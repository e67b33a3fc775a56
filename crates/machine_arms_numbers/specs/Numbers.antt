-- What the instructions on numbers and truths compute, on values as they are kept.
use Rattle.std.specs.Prelude.{ℕ, zero, suc, ◌+◌, ℤ, pos, negsuc, ◌-ℤ◌, int_lt, int_le, Bool, true, false, cond, List, Option, Some, None, is_some, slice_get, slice_set}
use Rattle.code_core.specs.Instruction.{c_of}
use Rattle.code_core.specs.declared.instruction.Instruction.{Instruction}
use Rattle.code_core.specs.declared.opcode.Opcode.{Opcode}
use Rattle.code_core.specs.declared.opcode.Opcode.TheVariants.{Move, LoadI, LoadK, LoadKx, LoadFalse, LFalseSkip, LoadTrue, LoadNil, AddI, ShrI, ShlI, Unm, BNot, Not, Test, TestSet, AddK, SubK, MulK, ModK, IDivK, BAndK, BOrK, BXorK, Add, Sub, Mul, Mod, IDiv, BAnd, BOr, BXor, Shl, Shr, Lt, Le, LtI, LeI, GtI, GeI}
use Rattle.int_core.specs.Arithmetic.{add, neg, shl, shr}
use Rattle.int_core.specs.Operations.{Event, of_add, of_sub, of_mul, of_mod, of_idiv, of_band, of_bor, of_bxor, of_shl, of_shr}
use Rattle.table_core.specs.Value.{value_eq, are_tables}
use Rattle.table_core.specs.declared.value.Value.{Value}
use Rattle.table_core.specs.declared.value.Value.TheVariants.{Nil, Bool as Boolean, Int}

abbrev pub integer_in : Value → Option ℤ
integer_in (Int n) = Some n
integer_in _ = None

abbrev pub is_truthy : Value → Bool
is_truthy Nil = false
is_truthy (Boolean b) = b
is_truthy _ = true

-- equality, where no handler decides it: two tables may have one, unless they are the same
abbrev pub equal_at_once : Value → Value → Option Bool
equal_at_once v w = cond (value_eq v w) (Some true) (cond (are_tables v w) None (Some false))

-- the operator of an instruction on two registers, or on a register and a constant, and whether it is on a constant
abbrev pub operator_of : Opcode → Option (Event × Bool)
operator_of AddK = Some (of_add, true)
operator_of SubK = Some (of_sub, true)
operator_of MulK = Some (of_mul, true)
operator_of ModK = Some (of_mod, true)
operator_of IDivK = Some (of_idiv, true)
operator_of BAndK = Some (of_band, true)
operator_of BOrK = Some (of_bor, true)
operator_of BXorK = Some (of_bxor, true)
operator_of Add = Some (of_add, false)
operator_of Sub = Some (of_sub, false)
operator_of Mul = Some (of_mul, false)
operator_of Mod = Some (of_mod, false)
operator_of IDiv = Some (of_idiv, false)
operator_of BAnd = Some (of_band, false)
operator_of BOr = Some (of_bor, false)
operator_of BXor = Some (of_bxor, false)
operator_of Shl = Some (of_shl, false)
operator_of Shr = Some (of_shr, false)
operator_of _ = None

abbrev pub event_of : Opcode → Option Event
event_of op = elim (operator_of op) [ None ↦ None | Some o ↦ Some o.0 ]

abbrev pub has_constant : Opcode → Bool
has_constant op = elim (operator_of op) [ None ↦ false | Some o ↦ o.1 ]

-- an operator on a register and another or a constant, and the second operand
abbrev pub has_two : Opcode → Bool
has_two op = is_some (event_of op)

abbrev pub second : Opcode → (constants registers : List Value) → Instruction → Option Value
second op ks r w = cond (has_constant op) (slice_get ks (c_of w)) (slice_get r (c_of w))

-- an operator on a register and a number that stands in the instruction, and what it gives
abbrev pub has_numeral : Opcode → Bool
has_numeral AddI = true
has_numeral ShrI = true
has_numeral ShlI = true
has_numeral _ = false

abbrev pub of_numeral : Opcode → ℤ → ℤ → ℤ
of_numeral AddI m n = add m n
of_numeral ShrI m n = shr m n
of_numeral _ m n = shl n m

-- an operator on one register, and what it gives
abbrev pub has_one : Opcode → Bool
has_one Unm = true
has_one BNot = true
has_one _ = false

abbrev pub of_one : Opcode → ℤ → ℤ
of_one Unm n = neg n
of_one _ n = negsuc 0 -ℤ n

-- the order that a comparison asks for, of the value in the register and the other operand
abbrev pub ordered_by : Opcode → Option (ℤ → ℤ → Bool)
ordered_by Lt = Some int_lt
ordered_by Le = Some int_le
ordered_by LtI = Some int_lt
ordered_by LeI = Some int_le
ordered_by GtI = Some (λ m n. int_lt n m)
ordered_by GeI = Some (λ m n. int_le n m)
ordered_by _ = None

-- the instructions that go on within the frame whatever the values are
abbrev pub always_goes : Opcode → Bool
always_goes Move = true
always_goes LoadI = true
always_goes LoadK = true
always_goes LoadKx = true
always_goes LoadFalse = true
always_goes LFalseSkip = true
always_goes LoadTrue = true
always_goes LoadNil = true
always_goes AddI = true
always_goes ShrI = true
always_goes ShlI = true
always_goes Not = true
always_goes Test = true
always_goes TestSet = true
always_goes _ = false

-- the truth that an instruction loads, and how far it goes on
abbrev pub loads_truth : Opcode → Option (Bool × ℕ)
loads_truth LoadFalse = Some (false, 1)
loads_truth LFalseSkip = Some (false, 2)
loads_truth LoadTrue = Some (true, 1)
loads_truth _ = None

-- some registers from one on are nil
abbrev pub cleared : ℕ → ℕ → List Value → List Value
cleared from zero r = r
cleared from (suc count) r = slice_set (cleared from count r) (from + count) Nil

-- a jump's offset: whether it leads back, and how far
abbrev pub leads_back : ℤ → Bool
leads_back (pos n) = false
leads_back (negsuc n) = true

abbrev pub distance_of : ℤ → ℕ
distance_of (pos n) = n
distance_of (negsuc n) = suc n

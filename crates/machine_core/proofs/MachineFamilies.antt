-- One short code at least for each family of opcodes and each wait, with its world and its ending.
use Rattle.std.proofs.Common.{◌≡◌, ℕ, true, false, Bool, List, [], ◌∷◌, Option, Some, None, refl}
use Rattle.std.specs.Prelude.{pos, negsuc, codes}
use Rattle.std.specs.Int.{int_wrap}
use Rattle.std.specs.Fmt.{digits}
use Rattle.code_core.specs.declared.instruction.Instruction.{Instruction}
use Rattle.code_core.specs.declared.opcode.Opcode.TheVariants.{Move, GetUpval, LoadK, LoadKx, LFalseSkip, LoadTrue, LoadNil, GetI, GetField, SetTable, SetField, NewTable, OpSelf, AddI, SubK, BAndK, ShrI, ShlI, Add, Mod, IDiv, BAnd, BXor, MmBin, MmBinI, MmBinK, Unm, BNot, Not, Len, Concat, Tbc, Eq, Lt, Le, EqK, EqI, LtI, GtI, TestSet, Call, TailCall, Return, Return0, Return1, ForLoop, ForPrep, TForPrep, TForCall, TForLoop, SetList, VarArg, VarArgPrep, ExtraArg}
use Rattle.code_core.specs.declared.proto.Const.{Const}
use Rattle.code_core.specs.declared.proto.Const.TheVariants.{Nil, Int, Str}
use Rattle.code_core.specs.Opcode.{opcodes, number_of}
use Rattle.code_core.specs.Instruction.{abc, abx, op_ax}
use Rattle.code_core.specs.Prototype.{Prototype}
use Rattle.machine_core.specs.World.{put_frames, put_top, push, pop, write_cell, Function}
use Rattle.int_core.specs.Value.{nil, boolean, integer, a_table, a_function, Value, known, object}
use Rattle.int_core.specs.Heap.{Table, raw_set}
use Rattle.machine_core.specs.Moves.{with_own, put_coroutine, back_to_resumer, popped, bury, suspend_running, wait_for_another, go_into, Ending, spent, main_returned, main_failed}
use Rattle.machine_core.specs.MachineStep.{woken}
use Rattle.machine_core.proofs.Machine.{code, int, text, started, runs, load, jump, handler_table}

abbrev constants : List Const
constants = Str (codes "x") ∷ Int (pos 3) ∷ Str (codes "a") ∷ Str (codes "c") ∷ Nil ∷ []

abbrev with_parameters : ℕ → ℕ → List Instruction → Prototype
with_parameters params stack words = code params false stack constants [] [] words

abbrev function : Prototype → Function
function p = record { code = p; cells = [] }

abbrev empty_table : Table
empty_table = record { rows = []; metatable = None }

-- a code with arguments, where nothing else is there
abbrev alone : ℕ → ℕ → List Instruction → List Value → Option (Ending × List Value × ℕ)
alone params stack words arguments = runs 40 (started 0 (function (with_parameters params stack words) ∷ []) [] [] arguments)

-- a code with table 0, whose metatable is table 1 with one handler, function 1
abbrev with_handler : ℕ → List ℕ → Prototype → ℕ → List Instruction → List Value → Option (Ending × List Value × ℕ)
with_handler fuel event h stack words arguments =
    runs 40 (started fuel (function (with_parameters 2 stack words) ∷ function h ∷ []) [] (record { rows = []; metatable = Some 1 } ∷ handler_table event 1 ∷ empty_table ∷ []) arguments)

abbrev truth : Bool → Value
truth b = known (boolean b)

abbrev to_true : List Instruction
to_true = jump 1 ∷ abc LFalseSkip 0 0 0 false ∷ abc LoadTrue 0 0 0 false ∷ abc Return1 0 0 0 false ∷ []

abbrev gives : ℕ → List Instruction
gives r = abc Return1 r 0 0 false ∷ []

-- LOADK, LOADKX, LOADTRUE, LFALSESKIP, LOADNIL
loads : alone 0 6 (abx LoadK 0 1 ∷ abx LoadKx 1 0 ∷ op_ax ExtraArg 2 ∷ abc LoadTrue 2 0 0 false ∷ abc LFalseSkip 3 0 0 false ∷ load 3 9 ∷ abc LoadNil 4 1 0 false ∷ abc Return 0 7 0 false ∷ []) [] ≡ Some (main_returned, int 3 ∷ text (codes "a") ∷ truth true ∷ truth false ∷ known nil ∷ known nil ∷ [], 0)
unfolding opcodes number_of int_wrap put_frames put_top push pop write_cell with_own put_coroutine back_to_resumer popped bury suspend_running wait_for_another go_into raw_set woken
loads = refl

-- a sum wraps
wraps : alone 2 3 (abc Add 2 0 1 false ∷ abc MmBin 0 1 6 false ∷ gives 2) (int 9223372036854775807 ∷ int 1 ∷ []) ≡ Some (main_returned, known (integer (negsuc 9223372036854775807)) ∷ [], 0)
unfolding opcodes number_of int_wrap put_frames put_top push pop write_cell with_own put_coroutine back_to_resumer popped bury suspend_running wait_for_another go_into raw_set woken
wraps = refl

-- -7 // 2 and -7 % 2
floors : alone 2 4 (abc IDiv 2 0 1 false ∷ abc MmBin 0 1 12 false ∷ abc Mod 3 0 1 false ∷ abc MmBin 0 1 9 false ∷ abc Return 2 3 0 false ∷ []) (known (integer (negsuc 6)) ∷ int 2 ∷ []) ≡ Some (main_returned, known (integer (negsuc 3)) ∷ int 1 ∷ [], 0)
unfolding opcodes number_of int_wrap put_frames put_top push pop write_cell with_own put_coroutine back_to_resumer popped bury suspend_running wait_for_another go_into raw_set woken
floors = refl

-- 3 >> 1 and 1 << 3
shifts : alone 1 3 (abc ShrI 1 0 128 false ∷ abc MmBinI 0 128 17 false ∷ abc ShlI 2 0 128 false ∷ abc MmBinI 0 128 16 true ∷ abc Return 1 3 0 false ∷ []) (int 3 ∷ []) ≡ Some (main_returned, int 1 ∷ int 8 ∷ [], 0)
unfolding opcodes number_of int_wrap put_frames put_top push pop write_cell with_own put_coroutine back_to_resumer popped bury suspend_running wait_for_another go_into raw_set woken
shifts = refl

-- 6 & 3, 6 ~ 3, ~6
bits : alone 2 5 (abc BAnd 2 0 1 false ∷ abc MmBin 0 1 13 false ∷ abc BXor 3 0 1 false ∷ abc MmBin 0 1 15 false ∷ abc BNot 4 0 0 false ∷ abc Return 2 4 0 false ∷ []) (int 6 ∷ int 3 ∷ []) ≡ Some (main_returned, int 2 ∷ int 5 ∷ known (integer (negsuc 6)) ∷ [], 0)
unfolding opcodes number_of int_wrap put_frames put_top push pop write_cell with_own put_coroutine back_to_resumer popped bury suspend_running wait_for_another go_into raw_set woken
bits = refl

-- a string that spells an integer is converted by the MMBINI
spelled : alone 1 2 (abc AddI 1 0 128 false ∷ abc MmBinI 0 128 6 false ∷ gives 1) (text (codes " 0x10 ") ∷ []) ≡ Some (main_returned, int 17 ∷ [], 0)
unfolding opcodes number_of int_wrap put_frames put_top push pop write_cell with_own put_coroutine back_to_resumer popped bury suspend_running wait_for_another go_into raw_set woken
spelled = refl

-- with k an MMBINK takes its operands the other way round: 3 - "10"
swapped_operands : alone 1 2 (abc SubK 1 0 1 false ∷ abc MmBinK 0 1 7 true ∷ gives 1) (text (codes "10") ∷ []) ≡ Some (main_returned, known (integer (negsuc 6)) ∷ [], 0)
unfolding opcodes number_of int_wrap put_frames put_top push pop write_cell with_own put_coroutine back_to_resumer popped bury suspend_running wait_for_another go_into raw_set woken
swapped_operands = refl

-- the first operand at fault is named
bitwise_fault : alone 1 2 (abc BAndK 1 0 1 false ∷ abc MmBinK 0 1 13 false ∷ gives 1) (truth true ∷ []) ≡ Some (main_failed, text (codes "attempt to perform bitwise operation on a boolean value") ∷ [], 0)
unfolding opcodes number_of int_wrap put_frames put_top push pop write_cell with_own put_coroutine back_to_resumer popped bury suspend_running wait_for_another go_into raw_set woken
bitwise_fault = refl

-- a remainder by zero
remainder_fault : alone 2 3 (abc Mod 2 0 1 false ∷ abc MmBin 0 1 9 false ∷ gives 2) (int 1 ∷ int 0 ∷ []) ≡ Some (main_failed, text (codes "attempt to perform 'n%%0'") ∷ [], 0)
unfolding opcodes number_of int_wrap put_frames put_top push pop write_cell with_own put_coroutine back_to_resumer popped bury suspend_running wait_for_another go_into raw_set woken
remainder_fault = refl

-- a unary handler gets the operand twice
unary_handler : with_handler 1 (codes "__unm") (with_parameters 2 2 (gives 1)) 3 (abc Unm 2 0 0 false ∷ gives 2) (object a_table 0 ∷ []) ≡ Some (main_returned, object a_table 0 ∷ [], 0)
unfolding opcodes number_of int_wrap put_frames put_top push pop write_cell with_own put_coroutine back_to_resumer popped bury suspend_running wait_for_another go_into raw_set woken
unary_handler = refl

-- the handler of the right operand
right_handler : with_handler 1 (codes "__add") (with_parameters 2 2 (gives 0)) 3 (abc Add 2 1 0 false ∷ abc MmBin 1 0 6 false ∷ gives 2) (object a_table 0 ∷ int 5 ∷ []) ≡ Some (main_returned, int 5 ∷ [], 0)
unfolding opcodes number_of int_wrap put_frames put_top push pop write_cell with_own put_coroutine back_to_resumer popped bury suspend_running wait_for_another go_into raw_set woken
right_handler = refl

-- LEN of a string
lengths : alone 1 2 (abc Len 1 0 0 false ∷ gives 1) (text (codes "abc") ∷ []) ≡ Some (main_returned, int 3 ∷ [], 0)
unfolding opcodes number_of int_wrap put_frames put_top push pop write_cell with_own put_coroutine back_to_resumer popped bury suspend_running wait_for_another go_into raw_set woken
lengths = refl

-- NOT
negation : alone 1 2 (abc Not 1 0 0 false ∷ gives 1) (known nil ∷ []) ≡ Some (main_returned, truth true ∷ [], 0)
unfolding opcodes number_of int_wrap put_frames put_top push pop write_cell with_own put_coroutine back_to_resumer popped bury suspend_running wait_for_another go_into raw_set woken
negation = refl

-- NEWTABLE, SETLIST, LEN, GETI
lists : alone 0 5 (abc NewTable 0 0 0 false ∷ op_ax ExtraArg 0 ∷ load 1 5 ∷ load 2 6 ∷ abc SetList 0 2 0 false ∷ abc Len 1 0 0 false ∷ abc GetI 2 0 2 false ∷ abc Return 1 3 0 false ∷ []) [] ≡ Some (main_returned, int 2 ∷ int 6 ∷ [], 0)
unfolding opcodes number_of int_wrap put_frames put_top push pop write_cell with_own put_coroutine back_to_resumer popped bury suspend_running wait_for_another go_into raw_set woken
lists = refl

-- SETFIELD with a constant, GETFIELD of a key that is there and of one that is not
fields : alone 0 3 (abc NewTable 0 0 0 false ∷ op_ax ExtraArg 0 ∷ abc SetField 0 0 1 true ∷ abc GetField 1 0 0 false ∷ abc GetField 2 0 2 false ∷ abc Return 1 3 0 false ∷ []) [] ≡ Some (main_returned, int 3 ∷ known nil ∷ [], 0)
unfolding opcodes number_of int_wrap put_frames put_top push pop write_cell with_own put_coroutine back_to_resumer popped bury suspend_running wait_for_another go_into raw_set woken
fields = refl

nil_key : alone 0 2 (abc NewTable 0 0 0 false ∷ op_ax ExtraArg 0 ∷ abc SetTable 0 1 0 false ∷ abc Return0 0 0 0 false ∷ []) [] ≡ Some (main_failed, text (codes "table index is nil") ∷ [], 0)
unfolding opcodes number_of int_wrap put_frames put_top push pop write_cell with_own put_coroutine back_to_resumer popped bury suspend_running wait_for_another go_into raw_set woken
nil_key = refl

index_fault : alone 1 2 (abc GetField 1 0 0 false ∷ gives 1) (int 4 ∷ []) ≡ Some (main_failed, text (codes "attempt to index a number value") ∷ [], 0)
unfolding opcodes number_of int_wrap put_frames put_top push pop write_cell with_own put_coroutine back_to_resumer popped bury suspend_running wait_for_another go_into raw_set woken
index_fault = refl

-- SELF
method : runs 40 (started 1 (function (with_parameters 1 3 (abc OpSelf 1 0 0 true ∷ abc Call 1 2 2 false ∷ gives 1)) ∷ function (with_parameters 1 1 (gives 0)) ∷ []) [] (record { rows = (text (codes "x"), object a_function 1) ∷ []; metatable = None } ∷ []) (object a_table 0 ∷ [])) ≡ Some (main_returned, object a_table 0 ∷ [], 0)
unfolding opcodes number_of int_wrap put_frames put_top push pop write_cell with_own put_coroutine back_to_resumer popped bury suspend_running wait_for_another go_into raw_set woken
method = refl

-- the second table's `__index` is a function, which gets that table; the first of its results is taken
index_chain : runs 40 (started 1 (function (with_parameters 1 2 (abc GetField 1 0 0 false ∷ gives 1)) ∷ function (with_parameters 2 3 (abc Return 0 3 0 false ∷ [])) ∷ []) [] (record { rows = []; metatable = Some 1 } ∷ record { rows = (text (codes "__index"), object a_table 2) ∷ []; metatable = None } ∷ record { rows = []; metatable = Some 3 } ∷ handler_table (codes "__index") 1 ∷ []) (object a_table 0 ∷ [])) ≡ Some (main_returned, object a_table 2 ∷ [], 0)
unfolding opcodes number_of int_wrap put_frames put_top push pop write_cell with_own put_coroutine back_to_resumer popped bury suspend_running wait_for_another go_into raw_set woken
index_chain = refl

-- `__newindex` is called in place of the store
newindex : with_handler 1 (codes "__newindex") (with_parameters 3 4 (abc Return0 0 0 0 false ∷ [])) 3 (abc SetField 0 0 1 true ∷ abc Len 2 0 0 false ∷ gives 2) (object a_table 0 ∷ []) ≡ Some (main_returned, int 0 ∷ [], 0)
unfolding opcodes number_of int_wrap put_frames put_top push pop write_cell with_own put_coroutine back_to_resumer popped bury suspend_running wait_for_another go_into raw_set woken
newindex = refl

-- "a" .. t .. "c", where the handler of t answers "x": CONCAT goes on with the operand that is left
interrupted_concat : with_handler 1 (codes "__concat") (with_parameters 2 3 (abx LoadK 2 0 ∷ gives 2)) 4 (abx LoadK 1 2 ∷ abc Move 2 0 0 false ∷ abx LoadK 3 3 ∷ abc Concat 1 3 0 false ∷ gives 1) (object a_table 0 ∷ []) ≡ Some (main_returned, text (codes "ax") ∷ [], 0)
unfolding opcodes number_of int_wrap put_frames put_top push pop write_cell with_own put_coroutine back_to_resumer popped bury suspend_running wait_for_another go_into raw_set woken
interrupted_concat = refl

-- a handler that gives nothing gives nil, which is no operand for what is left
concat_of_nothing : with_handler 1 (codes "__concat") (with_parameters 2 3 (abc Return0 0 0 0 false ∷ [])) 4 (abx LoadK 1 2 ∷ abc Move 2 0 0 false ∷ abx LoadK 3 3 ∷ abc Concat 1 3 0 false ∷ gives 1) (object a_table 0 ∷ []) ≡ Some (main_failed, text (codes "attempt to concatenate a nil value") ∷ [], 0)
unfolding opcodes number_of int_wrap put_frames put_top push pop write_cell with_own put_coroutine back_to_resumer popped bury suspend_running wait_for_another go_into raw_set woken
concat_of_nothing = refl

concat_fault : alone 1 3 (abx LoadK 1 2 ∷ abc Move 2 0 0 false ∷ abc Concat 1 2 0 false ∷ gives 1) (truth true ∷ []) ≡ Some (main_failed, text (codes "attempt to concatenate a boolean value") ∷ [], 0)
unfolding opcodes number_of int_wrap put_frames put_top push pop write_cell with_own put_coroutine back_to_resumer popped bury suspend_running wait_for_another go_into raw_set woken
concat_fault = refl

joined_number : alone 1 3 (abc Move 1 0 0 false ∷ abx LoadK 2 2 ∷ abc Concat 1 2 0 false ∷ gives 1) (known (integer (negsuc 4)) ∷ []) ≡ Some (main_returned, text (codes "-5a") ∷ [], 0)
unfolding opcodes number_of int_wrap put_frames put_top push pop write_cell with_own put_coroutine back_to_resumer popped bury suspend_running wait_for_another go_into raw_set woken digits
joined_number = refl

-- the truth of the handler's result decides
equal_handler : with_handler 1 (codes "__eq") (with_parameters 2 2 (load 0 1 ∷ gives 0)) 2 (abc Eq 0 1 0 true ∷ to_true) (object a_table 0 ∷ object a_table 2 ∷ []) ≡ Some (main_returned, truth true ∷ [], 0)
unfolding opcodes number_of int_wrap put_frames put_top push pop write_cell with_own put_coroutine back_to_resumer popped bury suspend_running wait_for_another go_into raw_set woken
equal_handler = refl

less_strings : alone 2 2 (abc Lt 0 1 0 true ∷ to_true) (text (codes "ab") ∷ text (codes "abc") ∷ []) ≡ Some (main_returned, truth true ∷ [], 0)
unfolding opcodes number_of int_wrap put_frames put_top push pop write_cell with_own put_coroutine back_to_resumer popped bury suspend_running wait_for_another go_into raw_set woken
less_strings = refl

-- 4 > 3
greater : alone 1 1 (abc GtI 0 130 0 true ∷ to_true) (int 4 ∷ []) ≡ Some (main_returned, truth true ∷ [], 0)
unfolding opcodes number_of int_wrap put_frames put_top push pop write_cell with_own put_coroutine back_to_resumer popped bury suspend_running wait_for_another go_into raw_set woken
greater = refl

-- 4 < 3
not_less : alone 1 1 (abc LtI 0 130 0 true ∷ to_true) (int 4 ∷ []) ≡ Some (main_returned, truth false ∷ [], 0)
unfolding opcodes number_of int_wrap put_frames put_top push pop write_cell with_own put_coroutine back_to_resumer popped bury suspend_running wait_for_another go_into raw_set woken
not_less = refl

compare_fault : alone 2 2 (abc Le 0 1 0 true ∷ to_true) (int 1 ∷ text (codes "1") ∷ []) ≡ Some (main_failed, text (codes "attempt to compare number with string") ∷ [], 0)
unfolding opcodes number_of int_wrap put_frames put_top push pop write_cell with_own put_coroutine back_to_resumer popped bury suspend_running wait_for_another go_into raw_set woken
compare_fault = refl

compare_two_fault : alone 2 2 (abc Lt 0 1 0 true ∷ to_true) (known nil ∷ known nil ∷ []) ≡ Some (main_failed, text (codes "attempt to compare two nil values") ∷ [], 0)
unfolding opcodes number_of int_wrap put_frames put_top push pop write_cell with_own put_coroutine back_to_resumer popped bury suspend_running wait_for_another go_into raw_set woken
compare_two_fault = refl

raw_equal : alone 1 1 (abc EqK 0 1 0 true ∷ to_true) (int 3 ∷ []) ≡ Some (main_returned, truth true ∷ [], 0)
unfolding opcodes number_of int_wrap put_frames put_top push pop write_cell with_own put_coroutine back_to_resumer popped bury suspend_running wait_for_another go_into raw_set woken
raw_equal = refl

-- k turns a test round
raw_equal_turned : alone 1 1 (abc EqK 0 1 0 false ∷ to_true) (int 3 ∷ []) ≡ Some (main_returned, truth false ∷ [], 0)
unfolding opcodes number_of int_wrap put_frames put_top push pop write_cell with_own put_coroutine back_to_resumer popped bury suspend_running wait_for_another go_into raw_set woken
raw_equal_turned = refl

raw_other_turned : alone 1 1 (abc EqK 0 1 0 false ∷ to_true) (int 4 ∷ []) ≡ Some (main_returned, truth true ∷ [], 0)
unfolding opcodes number_of int_wrap put_frames put_top push pop write_cell with_own put_coroutine back_to_resumer popped bury suspend_running wait_for_another go_into raw_set woken
raw_other_turned = refl

number_equal : alone 1 1 (abc EqI 0 130 0 true ∷ to_true) (int 3 ∷ []) ≡ Some (main_returned, truth true ∷ [], 0)
unfolding opcodes number_of int_wrap put_frames put_top push pop write_cell with_own put_coroutine back_to_resumer popped bury suspend_running wait_for_another go_into raw_set woken
number_equal = refl

number_equal_turned : alone 1 1 (abc EqI 0 130 0 false ∷ to_true) (int 3 ∷ []) ≡ Some (main_returned, truth false ∷ [], 0)
unfolding opcodes number_of int_wrap put_frames put_top push pop write_cell with_own put_coroutine back_to_resumer popped bury suspend_running wait_for_another go_into raw_set woken
number_equal_turned = refl

tested_set : alone 1 2 (abc TestSet 1 0 0 false ∷ jump 0 ∷ gives 1) (truth false ∷ []) ≡ Some (main_returned, truth false ∷ [], 0)
unfolding opcodes number_of int_wrap put_frames put_top push pop write_cell with_own put_coroutine back_to_resumer popped bury suspend_running wait_for_another go_into raw_set woken
tested_set = refl

-- open lists of VARARG and CALL stand past the stack
open_list : runs 40 (started 1 (function (code 0 true 1 [] [] [] (abc VarArgPrep 0 0 0 false ∷ abc VarArg 0 0 0 false ∷ abc Call 0 0 0 false ∷ abc Return 0 0 0 false ∷ [])) ∷ function (code 0 true 1 [] [] [] (abc VarArgPrep 0 0 0 false ∷ abc VarArg 0 0 0 false ∷ abc Return 0 0 0 false ∷ [])) ∷ []) [] [] (object a_function 1 ∷ int 1 ∷ int 2 ∷ int 3 ∷ [])) ≡ Some (main_returned, int 1 ∷ int 2 ∷ int 3 ∷ [], 0)
unfolding opcodes number_of int_wrap put_frames put_top push pop write_cell with_own put_coroutine back_to_resumer popped bury suspend_running wait_for_another go_into raw_set woken
open_list = refl

-- what is called stands in front of the arguments; the chain costs nothing
call_handler : with_handler 1 (codes "__call") (with_parameters 2 2 (abc Return 0 3 0 false ∷ [])) 3 (abc Call 0 2 0 false ∷ abc Return 0 0 0 false ∷ []) (object a_table 0 ∷ int 8 ∷ []) ≡ Some (main_returned, object a_table 0 ∷ int 8 ∷ [], 0)
unfolding opcodes number_of int_wrap put_frames put_top push pop write_cell with_own put_coroutine back_to_resumer popped bury suspend_running wait_for_another go_into raw_set woken
call_handler = refl

tail_called : runs 40 (started 1 (function (with_parameters 2 2 (abc TailCall 0 2 0 false ∷ abc Return 0 0 0 false ∷ [])) ∷ function (with_parameters 1 2 (abc AddI 1 0 128 false ∷ abc MmBinI 0 128 6 false ∷ gives 1)) ∷ []) [] [] (object a_function 1 ∷ int 8 ∷ [])) ≡ Some (main_returned, int 9 ∷ [], 0)
unfolding opcodes number_of int_wrap put_frames put_top push pop write_cell with_own put_coroutine back_to_resumer popped bury suspend_running wait_for_another go_into raw_set woken
tail_called = refl

call_fault : alone 0 2 (abc Call 0 1 1 false ∷ abc Return0 0 0 0 false ∷ []) [] ≡ Some (main_failed, text (codes "attempt to call a nil value") ∷ [], 0)
unfolding opcodes number_of int_wrap put_frames put_top push pop write_cell with_own put_coroutine back_to_resumer popped bury suspend_running wait_for_another go_into raw_set woken
call_fault = refl

-- for i in f, nil, 0: four calls of the iterator and three rounds
generic_loop : runs 90 (started 7 (function (with_parameters 1 6 (abc Move 1 0 0 false ∷ load 0 0 ∷ abc LoadNil 2 0 0 false ∷ load 3 0 ∷ abc LoadNil 4 0 0 false ∷ abx TForPrep 1 2 ∷ abc Add 0 0 5 false ∷ abc MmBin 0 5 6 false ∷ abc TForCall 1 0 1 false ∷ abx TForLoop 1 4 ∷ gives 0)) ∷ function (with_parameters 2 2 (abc LtI 1 130 0 true ∷ jump 1 ∷ abc Return0 0 0 0 false ∷ abc AddI 1 1 128 false ∷ abc MmBinI 1 128 6 false ∷ gives 1)) ∷ []) [] [] (object a_function 1 ∷ [])) ≡ Some (main_returned, int 6 ∷ [], 0)
unfolding opcodes number_of int_wrap put_frames put_top push pop write_cell with_own put_coroutine back_to_resumer popped bury suspend_running wait_for_another go_into raw_set woken
generic_loop = refl

-- the call that would end the loop is not paid
generic_loop_short : runs 90 (started 6 (function (with_parameters 1 6 (abc Move 1 0 0 false ∷ load 0 0 ∷ abc LoadNil 2 0 0 false ∷ load 3 0 ∷ abc LoadNil 4 0 0 false ∷ abx TForPrep 1 2 ∷ abc Add 0 0 5 false ∷ abc MmBin 0 5 6 false ∷ abc TForCall 1 0 1 false ∷ abx TForLoop 1 4 ∷ gives 0)) ∷ function (with_parameters 2 2 (abc LtI 1 130 0 true ∷ jump 1 ∷ abc Return0 0 0 0 false ∷ abc AddI 1 1 128 false ∷ abc MmBinI 1 128 6 false ∷ gives 1)) ∷ []) [] [] (object a_function 1 ∷ [])) ≡ Some (spent, [], 0)
unfolding opcodes number_of int_wrap put_frames put_top push pop write_cell with_own put_coroutine back_to_resumer popped bury suspend_running wait_for_another go_into raw_set woken
generic_loop_short = refl

loop_down : alone 0 4 (load 0 3 ∷ load 1 3 ∷ abc LoadK 2 0 0 false ∷ abx ForPrep 0 0 ∷ abx ForLoop 0 1 ∷ abc Return0 0 0 0 false ∷ []) [] ≡ Some (main_failed, text (codes "'for' step must be a number") ∷ [], 0)
unfolding opcodes number_of int_wrap put_frames put_top push pop write_cell with_own put_coroutine back_to_resumer popped bury suspend_running wait_for_another go_into raw_set woken
loop_down = refl

zero_step : alone 0 4 (load 0 3 ∷ load 1 3 ∷ load 2 0 ∷ abx ForPrep 0 0 ∷ abx ForLoop 0 1 ∷ abc Return0 0 0 0 false ∷ []) [] ≡ Some (main_failed, text (codes "'for' step is zero") ∷ [], 0)
unfolding opcodes number_of int_wrap put_frames put_top push pop write_cell with_own put_coroutine back_to_resumer popped bury suspend_running wait_for_another go_into raw_set woken
zero_step = refl

-- a loop without a round leaves its registers
no_round : alone 0 4 (load 0 3 ∷ load 1 2 ∷ load 2 1 ∷ abx ForPrep 0 0 ∷ abx ForLoop 0 1 ∷ abc Return 0 4 0 false ∷ []) [] ≡ Some (main_returned, int 3 ∷ int 2 ∷ int 1 ∷ [], 0)
unfolding opcodes number_of int_wrap put_frames put_top push pop write_cell with_own put_coroutine back_to_resumer popped bury suspend_running wait_for_another go_into raw_set woken
no_round = refl

not_closable : alone 1 1 (abc Tbc 0 0 0 false ∷ abc Return0 0 0 0 false ∷ []) (int 1 ∷ []) ≡ Some (main_failed, text (codes "variable '?' got a non-closable value") ∷ [], 0)
unfolding opcodes number_of int_wrap put_frames put_top push pop write_cell with_own put_coroutine back_to_resumer popped bury suspend_running wait_for_another go_into raw_set woken
not_closable = refl

-- a trap is where a field names what is not there: a register, a constant, an upvalue, a second half, a place in the code
no_register : alone 0 1 (abc Move 1 0 0 false ∷ gives 0) [] ≡ None
unfolding opcodes number_of int_wrap put_frames put_top push pop write_cell with_own put_coroutine back_to_resumer popped bury suspend_running wait_for_another go_into raw_set woken
no_register = refl

no_constant : alone 0 1 (abx LoadK 0 9 ∷ gives 0) [] ≡ None
unfolding opcodes number_of int_wrap put_frames put_top push pop write_cell with_own put_coroutine back_to_resumer popped bury suspend_running wait_for_another go_into raw_set woken
no_constant = refl

no_upvalue : alone 0 1 (abc GetUpval 0 0 0 false ∷ gives 0) [] ≡ None
unfolding opcodes number_of int_wrap put_frames put_top push pop write_cell with_own put_coroutine back_to_resumer popped bury suspend_running wait_for_another go_into raw_set woken
no_upvalue = refl

no_second_half : alone 0 1 (abx LoadKx 0 0 ∷ gives 0) [] ≡ None
unfolding opcodes number_of int_wrap put_frames put_top push pop write_cell with_own put_coroutine back_to_resumer popped bury suspend_running wait_for_another go_into raw_set woken
no_second_half = refl

no_place : alone 0 1 (jump 5 ∷ gives 0) [] ≡ None
unfolding opcodes number_of int_wrap put_frames put_top push pop write_cell with_own put_coroutine back_to_resumer popped bury suspend_running wait_for_another go_into raw_set woken
no_place = refl

-- Short codes that move between coroutines, or are left by errors, with their worlds and endings.
use Rattle.std.proofs.Common.{◌≡◌, ℕ, true, false, Bool, List, [], ◌∷◌, ◌++◌, Some, None, refl}
use Rattle.std.specs.Prelude.{codes}
use Rattle.std.specs.Int.{int_wrap}
use Rattle.code_core.specs.declared.instruction.Instruction.{Instruction}
use Rattle.code_core.specs.declared.opcode.Opcode.TheVariants.{Move, GetUpval, SetTable, Closure, Call, Close, Tbc, Return, Return0, Return1, SetI, GetI, TailCall, AddI, MmBinI}
use Rattle.code_core.specs.Opcode.{opcodes, number_of}
use Rattle.code_core.specs.Instruction.{abc, abx}
use Rattle.code_core.specs.Prototype.{Prototype}
use Rattle.machine_core.specs.World.{put_frames, put_top, push, pop, write_cell, Function, Cell, closed, Coroutine, fresh, World}
use Rattle.int_core.specs.Value.{nil, boolean, primitive, a_table, a_function, a_coroutine, Value, known, object}
use Rattle.int_core.specs.Heap.{Table, raw_set}
use Rattle.machine_core.specs.Moves.{with_own, put_coroutine, back_to_resumer, popped, bury, suspend_running, wait_for_another, go_into, spent, main_yielded, main_returned, main_failed}
use Rattle.machine_core.specs.MachineStep.{woken}
use Rattle.machine_core.proofs.Machine.{log_in, counts, code, plain, int, text, started, runs, load, handler_table, closes, fails, handles, result}

abbrev pub truth : Bool → Value
truth b = known (boolean b)

abbrev pub function : Prototype → List ℕ → Function
function p cells = record { code = p; cells = cells }

-- a primitive by its number: pcall, xpcall, error, resume, yield, close
abbrev pub base : ℕ → Value
base n = known (primitive n)

-- coroutines that begin with functions by their numbers
abbrev pub beginning : List ℕ → List Coroutine
beginning [] = []
beginning (f ∷ fs) = fresh (object a_function f) ∷ beginning fs

abbrev pub with_coroutines : List ℕ → World → World
with_coroutines bodies W = record W { coroutines = W.coroutines ++ beginning bodies }

-- table 0 is closed by function 2, which writes the error down in table 2
abbrev pub tables : List Table
tables = record { rows = []; metatable = Some 1 } ∷ handler_table (codes "__close") 2 ∷ record { rows = []; metatable = None } ∷ []

abbrev pub cells : List Cell
cells = closed (object a_table 2) ∷ closed (object a_table 0) ∷ closed (base 2) ∷ closed (base 4) ∷ closed (base 3) ∷ closed (object a_coroutine 2) ∷ []

-- local x <close> = table 0; return 1, 2
abbrev pub returns : Prototype
returns = plain 5 (abc GetUpval 0 1 0 false ∷ abc Tbc 0 0 0 false ∷ load 1 1 ∷ load 2 2 ∷ abc Return 1 3 0 false ∷ [])

-- do local x <close> = table 0 end return 1, 2
abbrev pub closes_block : Prototype
closes_block = plain 5 (abc GetUpval 0 1 0 false ∷ abc Tbc 0 0 0 false ∷ abc Close 0 0 0 false ∷ load 1 1 ∷ load 2 2 ∷ abc Return 1 3 0 false ∷ [])

abbrev pub closing_world : ℕ → Prototype → List Value → World
closing_world fuel p arguments = started fuel (function p (0 ∷ 1 ∷ 2 ∷ []) ∷ function handles (0 ∷ []) ∷ function closes (0 ∷ []) ∷ function fails (0 ∷ 1 ∷ 2 ∷ []) ∷ []) cells tables arguments

-- resume(co); return close(co)
abbrev pub closes_failed : Prototype
closes_failed = code 3 false 5 [] [] [] (abc Move 3 0 0 false ∷ abc Move 4 2 0 false ∷ abc Call 3 2 1 false ∷ abc Move 3 1 0 false ∷ abc Move 4 2 0 false ∷ abc Call 3 2 0 false ∷ abc Return 3 0 0 false ∷ [])

abbrev pub calls_all : Prototype
calls_all = code 3 false 3 [] [] [] (abc Call 0 3 0 false ∷ abc Return 0 0 0 false ∷ [])

-- yield(5) return 6
abbrev pub inner : Prototype
inner = plain 2 (abc GetUpval 0 3 0 false ∷ load 1 5 ∷ abc Call 0 2 1 false ∷ load 0 6 ∷ abc Return1 0 0 0 false ∷ [])

-- local _, v = resume(co2); yield(v) return resume(co2)
abbrev pub middle : Prototype
middle = plain 2 (abc GetUpval 0 4 0 false ∷ abc GetUpval 1 5 0 false ∷ abc Call 0 2 3 false ∷ abc GetUpval 0 3 0 false ∷ abc Call 0 2 1 false ∷ abc GetUpval 0 4 0 false ∷ abc GetUpval 1 5 0 false ∷ abc Call 0 2 0 false ∷ abc Return 0 0 0 false ∷ [])

-- local _, v = resume(co1); return v, resume(co1)
abbrev pub outer : Prototype
outer = code 2 false 5 [] [] [] (abc Move 2 0 0 false ∷ abc Move 3 1 0 false ∷ abc Call 2 2 3 false ∷ abc Move 2 3 0 false ∷ abc Move 3 0 0 false ∷ abc Move 4 1 0 false ∷ abc Call 3 2 0 false ∷ abc Return 2 0 0 false ∷ [])

abbrev pub all : List ℕ
all = 0 ∷ 1 ∷ 2 ∷ 3 ∷ 4 ∷ 5 ∷ []

-- a return closes first, and keeps its results; the method writes no error down, for nil makes no row
closed_at_return : result (closing_world 1 returns []) ≡ (Some (main_returned, int 1 ∷ int 2 ∷ [], 0), [])
unfolding opcodes number_of int_wrap put_frames put_top push pop write_cell with_own put_coroutine back_to_resumer popped bury suspend_running wait_for_another go_into raw_set woken
closed_at_return = refl

closed_at_block : result (closing_world 1 closes_block []) ≡ (Some (main_returned, int 1 ∷ int 2 ∷ [], 0), [])
unfolding opcodes number_of int_wrap put_frames put_top push pop write_cell with_own put_coroutine back_to_resumer popped bury suspend_running wait_for_another go_into raw_set woken
closed_at_block = refl

close_unpaid : result (closing_world 0 returns []) ≡ (Some (spent, [], 0), [])
unfolding opcodes number_of int_wrap put_frames put_top push pop write_cell with_own put_coroutine back_to_resumer popped bury suspend_running wait_for_another go_into raw_set woken
close_unpaid = refl

-- a coroutine that fails keeps its pending variables until it is closed: resume, error, close and two methods
failed_closed_later : result (with_coroutines (3 ∷ []) (closing_world 5 closes_failed (base 3 ∷ base 5 ∷ object a_coroutine 1 ∷ []))) ≡ (Some (main_returned, truth false ∷ int 42 ∷ [], 0), int 42 ∷ int 42 ∷ [])
unfolding opcodes number_of int_wrap put_frames put_top push pop write_cell with_own put_coroutine back_to_resumer popped bury suspend_running wait_for_another go_into raw_set woken
failed_closed_later = refl

-- xpcall, f and error are paid, the handler cannot be called, one of two methods is paid
handler_not_callable : result (closing_world 4 calls_all (base 1 ∷ object a_function 3 ∷ int 1 ∷ [])) ≡ (Some (spent, object a_function 2 ∷ object a_table 0 ∷ text (codes "error in error handling") ∷ [], 0), text (codes "error in error handling") ∷ [])
unfolding opcodes number_of int_wrap put_frames put_top push pop write_cell with_own put_coroutine back_to_resumer popped bury suspend_running wait_for_another go_into raw_set woken
handler_not_callable = refl

not_callable_under_pcall : result (closing_world 1 calls_all (base 0 ∷ int 4 ∷ int 1 ∷ [])) ≡ (Some (main_returned, truth false ∷ text (codes "attempt to call a number value") ∷ [], 0), [])
unfolding opcodes number_of int_wrap put_frames put_top push pop write_cell with_own put_coroutine back_to_resumer popped bury suspend_running wait_for_another go_into raw_set woken
not_callable_under_pcall = refl

-- a yield and a resume across three coroutines: four calls of resume and two of yield
three_coroutines : runs 90 (with_coroutines (1 ∷ 2 ∷ []) (started 6 (function outer [] ∷ function middle all ∷ function inner all ∷ []) cells tables (base 3 ∷ object a_coroutine 1 ∷ []))) ≡ Some (main_returned, int 5 ∷ truth true ∷ truth true ∷ int 6 ∷ [], 0)
unfolding opcodes number_of int_wrap put_frames put_top push pop write_cell with_own put_coroutine back_to_resumer popped bury suspend_running wait_for_another go_into raw_set woken
three_coroutines = refl

-- a yield of the main coroutine ends the turn
main_yields : runs 90 (started 1 (function calls_all [] ∷ []) [] [] (base 4 ∷ int 1 ∷ int 2 ∷ [])) ≡ Some (main_yielded, int 1 ∷ int 2 ∷ [], 0)
unfolding opcodes number_of int_wrap put_frames put_top push pop write_cell with_own put_coroutine back_to_resumer popped bury suspend_running wait_for_another go_into raw_set woken
main_yields = refl

resumed_itself : runs 90 (started 1 (function calls_all [] ∷ []) [] [] (base 3 ∷ object a_coroutine 0 ∷ int 2 ∷ [])) ≡ Some (main_returned, truth false ∷ text (codes "cannot resume non-suspended coroutine") ∷ [], 0)
unfolding opcodes number_of int_wrap put_frames put_top push pop write_cell with_own put_coroutine back_to_resumer popped bury suspend_running wait_for_another go_into raw_set woken
resumed_itself = refl

-- pcall(yield) in a coroutine: what resumes it comes back behind `true`
yields_in_pcall : runs 90 (with_coroutines (1 ∷ []) (started 5 (function outer [] ∷ function (plain 2 (abc GetUpval 0 1 0 false ∷ abc GetUpval 1 0 0 false ∷ abc Call 0 2 0 false ∷ abc Return 0 0 0 false ∷ [])) (0 ∷ 1 ∷ []) ∷ []) (closed (base 4) ∷ closed (base 0) ∷ []) [] (base 3 ∷ object a_coroutine 1 ∷ []))) ≡ Some (main_returned, known nil ∷ truth true ∷ truth true ∷ [], 1)
unfolding opcodes number_of int_wrap put_frames put_top push pop write_cell with_own put_coroutine back_to_resumer popped bury suspend_running wait_for_another go_into raw_set woken
yields_in_pcall = refl

-- x <close> = table 0 and y <close> = table 3, whose method writes down what it closes
abbrev pub writes_value : Prototype
writes_value = log_in (abc SetTable 2 3 0 false ∷ abc Return0 0 0 0 false ∷ [])

abbrev pub closes_two : List Instruction → Prototype
closes_two words = plain 5 (abc GetUpval 0 1 0 false ∷ abc Tbc 0 0 0 false ∷ abc GetUpval 1 6 0 false ∷ abc Tbc 1 0 0 false ∷ words)

abbrev pub more : List ℕ
more = all ++ 6 ∷ []

abbrev pub two_tables : Prototype → Prototype → List Value → ℕ → World
two_tables p method arguments fuel =
    started fuel (function p more ∷ function handles more ∷ function method more ∷ function (closes_two (abc GetUpval 2 2 0 false ∷ load 3 42 ∷ abc Call 2 2 1 false ∷ abc Return0 0 0 0 false ∷ [])) more ∷ [])
    (cells ++ closed (object a_table 3) ∷ []) (tables ++ record { rows = []; metatable = Some 1 } ∷ []) arguments

-- the last one is closed first, at a return and when an error leaves the frame
order_at_return : result (two_tables (closes_two (abc Return0 0 0 0 false ∷ [])) writes_value [] 2) ≡ (Some (main_returned, [], 0), object a_table 3 ∷ object a_table 0 ∷ [])
unfolding opcodes number_of int_wrap put_frames put_top push pop write_cell with_own put_coroutine back_to_resumer popped bury suspend_running wait_for_another go_into raw_set woken
order_at_return = refl

order_at_block : result (two_tables (closes_two (abc Close 1 0 0 false ∷ load 1 4 ∷ abc Return1 1 0 0 false ∷ [])) writes_value [] 2) ≡ (Some (main_returned, int 4 ∷ [], 0), object a_table 3 ∷ object a_table 0 ∷ [])
unfolding opcodes number_of int_wrap put_frames put_top push pop write_cell with_own put_coroutine back_to_resumer popped bury suspend_running wait_for_another go_into raw_set woken
order_at_block = refl

order_at_error : result (two_tables calls_all writes_value (base 0 ∷ object a_function 3 ∷ int 1 ∷ []) 5) ≡ (Some (main_returned, truth false ∷ int 42 ∷ [], 0), object a_table 3 ∷ object a_table 0 ∷ [])
unfolding opcodes number_of int_wrap put_frames put_top push pop write_cell with_own put_coroutine back_to_resumer popped bury suspend_running wait_for_another go_into raw_set woken
order_at_error = refl

-- a closing method that fails with 8 replaces the error, and the other variable is closed with 8
method_fails : result (two_tables calls_all (log_in (abc SetTable 2 3 1 false ∷ abc GetUpval 2 2 0 false ∷ load 3 8 ∷ abc Call 2 2 1 false ∷ abc Return0 0 0 0 false ∷ [])) (base 0 ∷ object a_function 3 ∷ int 1 ∷ []) 7) ≡ (Some (main_returned, truth false ∷ int 8 ∷ [], 0), int 42 ∷ int 8 ∷ [])
unfolding opcodes number_of int_wrap put_frames put_top push pop write_cell with_own put_coroutine back_to_resumer popped bury suspend_running wait_for_another go_into raw_set woken
method_fails = refl

-- under xpcall the message handler is called for each of these errors, and answers one more
method_fails_handled : result (two_tables calls_all (log_in (abc SetTable 2 3 1 false ∷ abc GetUpval 2 2 0 false ∷ load 3 8 ∷ abc Call 2 2 1 false ∷ abc Return0 0 0 0 false ∷ [])) (base 1 ∷ object a_function 3 ∷ object a_function 1 ∷ []) 10) ≡ (Some (main_returned, truth false ∷ int 9 ∷ [], 0), int 7 ∷ int 43 ∷ int 7 ∷ int 9 ∷ int 7 ∷ [])
unfolding opcodes number_of int_wrap put_frames put_top push pop write_cell with_own put_coroutine back_to_resumer popped bury suspend_running wait_for_another go_into raw_set woken
method_fails_handled = refl

-- local x = 10; return two closures that add one to x: their cell outlives the frame, and they share it
abbrev pub makes : Prototype
makes = code 0 false 3 [] [] (counts ∷ counts ∷ []) (load 0 10 ∷ abx Closure 1 0 ∷ abx Closure 2 1 ∷ abc Return 1 3 0 false ∷ [])

outlived : runs 40 (started 4 (function (code 1 false 5 [] [] [] (abc Call 0 1 3 false ∷ abc Move 2 0 0 false ∷ abc Call 2 1 2 false ∷ abc Move 3 1 0 false ∷ abc Call 3 1 2 false ∷ abc Move 4 0 0 false ∷ abc Call 4 1 2 false ∷ abc Return 2 4 0 false ∷ [])) [] ∷ function makes [] ∷ []) [] [] (object a_function 1 ∷ [])) ≡ Some (main_returned, int 11 ∷ int 12 ∷ int 13 ∷ [], 0)
unfolding opcodes number_of int_wrap put_frames put_top push pop write_cell with_own put_coroutine back_to_resumer popped bury suspend_running wait_for_another go_into raw_set woken
outlived = refl

-- coroutine.close of a suspended coroutine closes its variables in the coroutine that calls it, the last one first
abbrev pub yields_with_two : Prototype
yields_with_two = closes_two (abc GetUpval 2 3 0 false ∷ abc Call 2 1 1 false ∷ abc Return0 0 0 0 false ∷ [])

abbrev pub suspended_world : ℕ → Prototype → World
suspended_world fuel method =
    with_coroutines (3 ∷ []) (started fuel
    (function closes_failed more ∷ function handles more ∷ function method more ∷ function yields_with_two more ∷ [])
    (cells ++ closed (object a_table 3) ∷ []) (tables ++ record { rows = []; metatable = Some 1 } ∷ []) (base 3 ∷ base 5 ∷ object a_coroutine 1 ∷ []))

closed_while_suspended : result (suspended_world 5 writes_value) ≡ (Some (main_returned, truth true ∷ [], 0), object a_table 3 ∷ object a_table 0 ∷ [])
unfolding opcodes number_of int_wrap put_frames put_top push pop write_cell with_own put_coroutine back_to_resumer popped bury suspend_running wait_for_another go_into raw_set woken
closed_while_suspended = refl

-- the first method gets no error, and fails with 8; the second one gets 8 and fails with 8
closed_with_errors : result (suspended_world 7 (log_in (abc SetTable 2 3 1 false ∷ abc GetUpval 2 2 0 false ∷ load 3 8 ∷ abc Call 2 2 1 false ∷ abc Return0 0 0 0 false ∷ []))) ≡ (Some (main_returned, truth false ∷ int 8 ∷ [], 0), int 8 ∷ [])
unfolding opcodes number_of int_wrap put_frames put_top push pop write_cell with_own put_coroutine back_to_resumer popped bury suspend_running wait_for_another go_into raw_set woken
closed_with_errors = refl

-- the main script's error closes its variables
main_closes : result (two_tables (closes_two (abc GetUpval 2 2 0 false ∷ load 3 42 ∷ abc Call 2 2 1 false ∷ abc Return0 0 0 0 false ∷ [])) writes_value [] 3) ≡ (Some (main_failed, int 42 ∷ [], 0), object a_table 3 ∷ object a_table 0 ∷ [])
unfolding opcodes number_of int_wrap put_frames put_top push pop write_cell with_own put_coroutine back_to_resumer popped bury suspend_running wait_for_another go_into raw_set woken
main_closes = refl

-- local f do local x = 10; f = function() x = x + 1 return x end; x = 20 end: the register is used again, and the cell keeps 20
abbrev pub ends_scope : Prototype
ends_scope = code 0 false 3 [] [] (counts ∷ []) (load 0 10 ∷ abx Closure 1 0 ∷ load 0 20 ∷ abc Close 0 0 0 false ∷ load 0 30 ∷ abc Return1 1 0 0 false ∷ [])

abbrev pub scope_world : World
scope_world =
    started 2
    (function (code 1 false 3 [] [] [] (abc Call 0 1 2 false ∷ abc Move 1 0 0 false ∷ abc Call 1 1 2 false ∷ abc Return1 1 0 0 false ∷ [])) [] ∷ function ends_scope [] ∷ [])
    [] [] (object a_function 1 ∷ [])

scope_ended : runs 40 scope_world ≡ Some (main_returned, int 21 ∷ [], 0)
unfolding opcodes number_of int_wrap put_frames put_top push pop write_cell with_own put_coroutine back_to_resumer popped bury suspend_running wait_for_another go_into raw_set woken
scope_ended = refl

-- local x = 5; table 2 [1] = function() return x end; nil + 1. The handler calls that function: the cell was closed as the frame began to be left
abbrev pub reads_captured : Prototype
reads_captured = code 0 false 1 [] (record { in_stack = true; index = 0; kind = 0 } ∷ []) [] (abc GetUpval 0 0 0 false ∷ abc Return1 0 0 0 false ∷ [])

abbrev pub handled_world : World
handled_world =
    started 4
    (function calls_all [] ∷ function (code 0 false 4 [] [] (reads_captured ∷ []) (load 0 5 ∷ abx Closure 1 0 ∷ abc GetUpval 2 0 0 false ∷ abc SetI 2 1 1 false ∷ abc AddI 3 3 128 false ∷ abc MmBinI 3 128 6 false ∷ abc Return0 0 0 0 false ∷ [])) (0 ∷ [])
    ∷ function (code 1 false 3 [] [] [] (abc GetUpval 1 0 0 false ∷ abc GetI 1 1 1 false ∷ abc TailCall 1 1 0 false ∷ abc Return 1 0 0 false ∷ [])) (0 ∷ []) ∷ [])
    (closed (object a_table 0) ∷ []) (record { rows = []; metatable = None } ∷ []) (base 1 ∷ object a_function 1 ∷ object a_function 2 ∷ [])

read_by_handler : runs 60 handled_world ≡ Some (main_returned, truth false ∷ int 5 ∷ [], 0)
unfolding opcodes number_of int_wrap put_frames put_top push pop write_cell with_own put_coroutine back_to_resumer popped bury suspend_running wait_for_another go_into raw_set woken
read_by_handler = refl

-- Cases at the edges of the machine's definition: those in which a near reading of the manual or of the virtual machine would differ.
use Rattle.std.proofs.Common.{◌≡◌, ap, ℕ, zero, suc, ◌+◌, true, false, List, [], ◌∷◌, Option, Some, None, refl, length, cond}
use Rattle.std.specs.Prelude.{pos, codes, nat_le}
use Rattle.std.specs.Int.{int_wrap}
use Rattle.std.specs.Fmt.{digits}
use Rattle.code_core.specs.declared.opcode.Opcode.TheVariants.{GetUpval, GetTable, NewTable, OpSelf, Call, Close, Tbc, Return0, Return1, ForPrep, SetList, ExtraArg}
use Rattle.code_core.specs.Opcode.{opcodes, number_of}
use Rattle.code_core.specs.Instruction.{abc, abx, op_ax}
use Rattle.code_core.specs.Prototype.{Prototype, prototypes}
use Rattle.int_core.specs.Value.{boolean, a_table, a_function, a_coroutine, Value, known, object, nil}
use Rattle.int_core.specs.Limits.{greatest_depth, stack_overflow}
use Rattle.int_core.specs.Heap.{raw_set}
use Rattle.machine_core.specs.World.{put_frames, put_top, push, pop, write_cell, closed, Frame, pcall, closing, Coroutine, fresh, in_progress, normal, dead, failed, World, Stack}
use Rattle.machine_core.specs.Moves.{with_own, put_coroutine, back_to_resumer, popped, bury, suspend_running, wait_for_another, go_into, add_coroutine, add_printed, not_entered, resumed, made, move, push_frame, push_all, over_pcall, has_room, closes_coroutine, Ending, go, returned, raised, spent, main_returned, main_failed, traps, Outcome, trapped, ends, run}
use Rattle.machine_core.specs.MachineStep.{woken, resume_row, create_row, status_row, running_row, yieldable_row, print_row, steps}
use Rattle.machine_core.specs.PrimitiveRows.{row_numbered}
use Rattle.machine_core.proofs.Machine.{primitives, code, plain, int, text, started, runs, load, log_in, fails, result}
use Rattle.machine_core.proofs.MachineErrors.{base, function, closing_world, suspended_world}

abbrev alone : Prototype → List Value → Option (Ending × List Value × ℕ)
alone p arguments = runs 40 (started 0 (function p [] ∷ []) [] (record { rows = []; metatable = None } ∷ []) arguments)

-- a CALL takes pending registers from its A on off the list, uncalled: local x <close> = table 0 in register 1, and f() at register 0
abbrev drops : Prototype
drops = plain 3 (abc GetUpval 1 1 0 false ∷ abc Tbc 1 0 0 false ∷ abc GetUpval 0 2 0 false ∷ abc Call 0 1 1 false ∷ abc Return0 0 0 0 false ∷ [])

abbrev nothing : Prototype
nothing = plain 2 (abc Return0 0 0 0 false ∷ [])

call_drops_pending : runs 40 (started 1 (function drops (0 ∷ 1 ∷ 2 ∷ []) ∷ function nothing [] ∷ []) (closed (known nil) ∷ closed (object a_table 0) ∷ closed (object a_function 1) ∷ [])
    (record { rows = []; metatable = Some 1 } ∷ record { rows = (text (codes "__close"), object a_function 1) ∷ []; metatable = None } ∷ []) []) ≡ Some (main_returned, [], 0)
unfolding opcodes number_of int_wrap put_frames put_top push pop write_cell with_own put_coroutine back_to_resumer popped bury suspend_running wait_for_another go_into raw_set woken
call_drops_pending = refl

-- CLOSE 1 closes register 1, though register 0 was marked after it; the call at register 0 then takes that one off the list
abbrev closes_above : Prototype
closes_above = plain 3 (abc GetUpval 1 1 0 false ∷ abc Tbc 1 0 0 false ∷ abc GetUpval 0 1 0 false ∷ abc Tbc 0 0 0 false ∷ abc Close 1 0 0 false ∷ abc GetUpval 0 2 0 false ∷ abc Call 0 1 1 false ∷ abc Return0 0 0 0 false ∷ [])

close_looks_past_lower : runs 40 (started 2 (function closes_above (0 ∷ 1 ∷ 2 ∷ []) ∷ function nothing [] ∷ []) (closed (known nil) ∷ closed (object a_table 0) ∷ closed (object a_function 1) ∷ [])
    (record { rows = []; metatable = Some 1 } ∷ record { rows = (text (codes "__close"), object a_function 1) ∷ []; metatable = None } ∷ []) []) ≡ Some (main_returned, [], 0)
unfolding opcodes number_of int_wrap put_frames put_top push pop write_cell with_own put_coroutine back_to_resumer popped bury suspend_running wait_for_another go_into raw_set woken
close_looks_past_lower = refl

-- EXTRAARG counts 256 for each of its units: the item behind index 2 + 256 is at 259
abbrev fills : Prototype
fills = code 0 false 4 [] [] [] (abc NewTable 0 0 0 false ∷ op_ax ExtraArg 0 ∷ load 1 7 ∷ abc SetList 0 1 2 true ∷ op_ax ExtraArg 1 ∷ load 2 259 ∷ abc GetTable 3 0 2 false ∷ abc Return1 3 0 0 false ∷ [])

list_far_on : alone fills [] ≡ Some (main_returned, int 7 ∷ [], 0)
unfolding opcodes number_of int_wrap put_frames put_top push pop write_cell with_own put_coroutine back_to_resumer popped bury suspend_running wait_for_another go_into raw_set woken
list_far_on = refl

-- SELF reads its key before it writes the object to the register behind A, which may be the key's
abbrev keyed : List Value → Option (Ending × List Value × ℕ)
keyed arguments = runs 40 (started 0 (function (code 3 false 3 [] [] [] (abc OpSelf 1 0 2 false ∷ abc Return1 1 0 0 false ∷ [])) [] ∷ []) [] (record { rows = (text (codes "x"), int 5) ∷ []; metatable = None } ∷ []) arguments)

self_reads_first : keyed (object a_table 0 ∷ known nil ∷ text (codes "x") ∷ []) ≡ Some (main_returned, int 5 ∷ [], 0)
unfolding opcodes number_of int_wrap put_frames put_top push pop write_cell with_own put_coroutine back_to_resumer popped bury suspend_running wait_for_another go_into raw_set woken
self_reads_first = refl

-- a numeric `for` looks at its limit, then at its step, then at its initial value, and last at a step of zero
abbrev prepares : List Value → Option (Ending × List Value × ℕ)
prepares arguments = alone (code 3 false 4 [] [] [] (abx ForPrep 0 0 ∷ abc Return0 0 0 0 false ∷ abc Return0 0 0 0 false ∷ [])) arguments

limit_first : prepares (known nil ∷ known nil ∷ known nil ∷ []) ≡ Some (main_failed, text (codes "'for' limit must be a number") ∷ [], 0)
unfolding opcodes number_of int_wrap put_frames put_top push pop write_cell with_own put_coroutine back_to_resumer popped bury suspend_running wait_for_another go_into raw_set woken
limit_first = refl

step_second : prepares (known nil ∷ int 1 ∷ known nil ∷ []) ≡ Some (main_failed, text (codes "'for' step must be a number") ∷ [], 0)
unfolding opcodes number_of int_wrap put_frames put_top push pop write_cell with_own put_coroutine back_to_resumer popped bury suspend_running wait_for_another go_into raw_set woken
step_second = refl

value_third : prepares (known nil ∷ int 1 ∷ int 0 ∷ []) ≡ Some (main_failed, text (codes "'for' initial value must be a number") ∷ [], 0)
unfolding opcodes number_of int_wrap put_frames put_top push pop write_cell with_own put_coroutine back_to_resumer popped bury suspend_running wait_for_another go_into raw_set woken
value_third = refl

zero_last : prepares (int 1 ∷ int 1 ∷ int 0 ∷ []) ≡ Some (main_failed, text (codes "'for' step is zero") ∷ [], 0)
unfolding opcodes number_of int_wrap put_frames put_top push pop write_cell with_own put_coroutine back_to_resumer popped bury suspend_running wait_for_another go_into raw_set woken
zero_last = refl

-- `error` puts the place of a level in front of a string, and of nothing else. A chunk `=t` whose call is on line 5
abbrev raises : Prototype
raises = record {
  own = record {
    source = Some (codes "=t");
    line_defined = 5;
    last_line = 5;
    params = 3;
    vararg = false;
    stack = 3;
    code = abc Call 0 3 1 false ∷ abc Return0 0 0 0 false ∷ [];
    constants = [];
    upvalues = [];
    line_info = pos 0 ∷ pos 0 ∷ [];
    abs_lines = [];
    locals = [];
    up_names = [];
  };
  inner = prototypes [];
}

abbrev raised_with : Value → Value → Option (Ending × List Value × ℕ)
raised_with v level = runs 40 (started 1 (function raises [] ∷ []) [] [] (base 2 ∷ v ∷ level ∷ []))

level_missing : raised_with (text (codes "x")) (known nil) ≡ Some (main_failed, text (codes "t:5: x") ∷ [], 0)
unfolding opcodes number_of int_wrap digits put_frames put_top push pop write_cell with_own put_coroutine back_to_resumer popped bury suspend_running wait_for_another go_into raw_set woken
level_missing = refl

level_zero : raised_with (text (codes "x")) (int 0) ≡ Some (main_failed, text (codes "x") ∷ [], 0)
unfolding opcodes number_of int_wrap put_frames put_top push pop write_cell with_own put_coroutine back_to_resumer popped bury suspend_running wait_for_another go_into raw_set woken
level_zero = refl

level_too_high : raised_with (text (codes "x")) (int 2) ≡ Some (main_failed, text (codes "x") ∷ [], 0)
unfolding opcodes number_of int_wrap put_frames put_top push pop write_cell with_own put_coroutine back_to_resumer popped bury suspend_running wait_for_another go_into raw_set woken
level_too_high = refl

no_string : raised_with (int 42) (known nil) ≡ Some (main_failed, int 42 ∷ [], 0)
unfolding opcodes number_of int_wrap put_frames put_top push pop write_cell with_own put_coroutine back_to_resumer popped bury suspend_running wait_for_another go_into raw_set woken
no_string = refl

no_level : raised_with (text (codes "x")) (known (boolean true)) ≡ Some (main_failed, text (codes "t:5: bad argument #2 to 'error' (number expected, got boolean)") ∷ [], 0)
unfolding opcodes number_of int_wrap digits put_frames put_top push pop write_cell with_own put_coroutine back_to_resumer popped bury suspend_running wait_for_another go_into raw_set woken
no_level = refl

-- a second closing method finds nothing on its way that the first one returned: it calls a function first, which cannot be paid
abbrev calls_and_returns : Prototype
calls_and_returns = log_in (abc GetUpval 4 2 0 false ∷ abc Call 4 1 1 false ∷ load 4 9 ∷ abc Return1 4 0 0 false ∷ [])

nothing_moves : result (suspended_world 4 calls_and_returns) ≡ (Some (spent, [], 0), [])
unfolding opcodes number_of int_wrap put_frames put_top push pop write_cell with_own put_coroutine back_to_resumer popped bury suspend_running wait_for_another go_into raw_set woken
nothing_moves = refl

-- where the main script has failed no coroutine runs, and it has nothing pending
abbrev left : Outcome → Option (List ℕ × List Coroutine)
left trapped = None
left (ends e W) = Some (W.chain, W.coroutines)

main_has_failed : left (steps primitives 40 go (closing_world 3 fails [])) ≡ Some ([], failed (int 42) [] ∷ [])
unfolding opcodes number_of int_wrap put_frames put_top push pop write_cell with_own put_coroutine back_to_resumer popped bury suspend_running wait_for_another go_into raw_set woken
main_has_failed = refl

-- many coroutines that resumed each other, and one that has not run

abbrev up_to : (from count : ℕ) → List ℕ
up_to from zero = []
up_to from (suc count) = from ∷ up_to (suc from) count

abbrev waiting : ℕ → List Coroutine
waiting zero = in_progress (pcall ∷ []) ∷ fresh (known nil) ∷ []
waiting (suc count) = normal (pcall ∷ []) ∷ waiting count

-- `count` of them wait, one runs
abbrev nested : ℕ → World
nested count = record (started 0 [] [] [] []) { coroutines = waiting count; chain = up_to 0 (count + 1); moving = object a_coroutine (count + 1) ∷ [] }

abbrev told : Outcome → Option (Ending × List Value)
told trapped = None
told (ends e W) = Some (e, W.moving)

resumes_of_200 : told (run resume_row [] (nested 200)) ≡ Some (returned, known (boolean false) ∷ text (codes "too many nested resumes") ∷ [])
unfolding opcodes number_of int_wrap put_frames put_top push pop write_cell with_own put_coroutine back_to_resumer popped bury suspend_running wait_for_another go_into raw_set woken
resumes_of_200 = refl

-- a body that is nil cannot be entered, so one fewer gets as far as that
resumes_of_199 : told (run resume_row [] (nested 199)) ≡ None
unfolding opcodes number_of int_wrap put_frames put_top push pop write_cell with_own put_coroutine back_to_resumer popped bury suspend_running wait_for_another go_into raw_set woken
resumes_of_199 = refl

-- frames: there is room for the last one, and for no other

abbrev many : ℕ → List Frame
many zero = []
many (suc count) = pcall ∷ many count

length_many : (count : ℕ) → length (many count) ≡ count
length_many zero = refl
length_many (suc count) = ap suc (length_many count)

abbrev deep : List Frame → World
deep frames = record (started 0 [] [] [] []) { coroutines = in_progress frames ∷ fresh (known nil) ∷ [] }

room_in : (count : ℕ) → has_room (deep (many count)) 1 ≡ nat_le (count + 1) greatest_depth
room_in count = ap (λ n. nat_le (n + 1) greatest_depth) (length_many count)

room_for_the_last : has_room (deep (many 99999)) 1 ≡ true
room_for_the_last = room_in 99999

no_more_room : has_room (deep (many 100000)) 1 ≡ false
no_more_room = room_in 100000

-- without room a coroutine is not closed
nothing_closed : (s : Stack) → closes_coroutine (deep (many 100000)) s 1 (fresh (known nil)) ≡ made (deep (many 100000)) [] (resumed (not_entered stack_overflow))
nothing_closed s = ap (λ room. cond room (made (push (put_coroutine (deep (many 100000)) 1 dead) s (closing None [])) [] (resumed Rattle.machine_core.specs.Moves.is_entered)) (made (deep (many 100000)) [] (resumed (not_entered stack_overflow)))) no_more_room

-- what makes a coroutine, looks at one, or prints

abbrev given : ℕ → List Value → World
given count vs = record (nested count) { moving = vs }

abbrev over : Coroutine → World
over c = record (given 0 (object a_coroutine 1 ∷ [])) { coroutines = in_progress (pcall ∷ []) ∷ c ∷ [] }

made_last : told (run create_row [] (given 0 (base 0 ∷ []))) ≡ Some (returned, object a_coroutine 2 ∷ [])
unfolding opcodes number_of int_wrap digits put_frames put_top push pop write_cell with_own put_coroutine back_to_resumer popped bury suspend_running wait_for_another go_into raw_set woken add_coroutine add_printed
made_last = refl

made_of_no_table : told (run create_row [] (given 0 (object a_table 0 ∷ []))) ≡ Some (raised, text (codes "bad argument #1 to 'create' (function expected, got table)") ∷ [])
unfolding opcodes number_of int_wrap digits put_frames put_top push pop write_cell with_own put_coroutine back_to_resumer popped bury suspend_running wait_for_another go_into raw_set woken add_coroutine add_printed
made_of_no_table = refl

status_running : told (run status_row [] (given 0 (object a_coroutine 0 ∷ []))) ≡ Some (returned, text (codes "running") ∷ [])
unfolding opcodes number_of int_wrap digits put_frames put_top push pop write_cell with_own put_coroutine back_to_resumer popped bury suspend_running wait_for_another go_into raw_set woken add_coroutine add_printed
status_running = refl

status_new : told (run status_row [] (given 0 (object a_coroutine 1 ∷ []))) ≡ Some (returned, text (codes "suspended") ∷ [])
unfolding opcodes number_of int_wrap digits put_frames put_top push pop write_cell with_own put_coroutine back_to_resumer popped bury suspend_running wait_for_another go_into raw_set woken add_coroutine add_printed
status_new = refl

status_normal : told (run status_row [] (given 1 (object a_coroutine 0 ∷ []))) ≡ Some (returned, text (codes "normal") ∷ [])
unfolding opcodes number_of int_wrap digits put_frames put_top push pop write_cell with_own put_coroutine back_to_resumer popped bury suspend_running wait_for_another go_into raw_set woken add_coroutine add_printed
status_normal = refl

status_dead : told (run status_row [] (over dead)) ≡ Some (returned, text (codes "dead") ∷ [])
unfolding opcodes number_of int_wrap digits put_frames put_top push pop write_cell with_own put_coroutine back_to_resumer popped bury suspend_running wait_for_another go_into raw_set woken add_coroutine add_printed
status_dead = refl

status_failed : told (run status_row [] (over (failed (int 1) []))) ≡ Some (returned, text (codes "dead") ∷ [])
unfolding opcodes number_of int_wrap digits put_frames put_top push pop write_cell with_own put_coroutine back_to_resumer popped bury suspend_running wait_for_another go_into raw_set woken add_coroutine add_printed
status_failed = refl

status_of_no_number : told (run status_row [] (given 0 (int 5 ∷ []))) ≡ Some (raised, text (codes "bad argument #1 to 'status' (coroutine expected, got number)") ∷ [])
unfolding opcodes number_of int_wrap digits put_frames put_top push pop write_cell with_own put_coroutine back_to_resumer popped bury suspend_running wait_for_another go_into raw_set woken add_coroutine add_printed
status_of_no_number = refl

last_runs : told (run running_row [] (given 1 [])) ≡ Some (returned, object a_coroutine 1 ∷ known (boolean false) ∷ [])
unfolding opcodes number_of int_wrap digits put_frames put_top push pop write_cell with_own put_coroutine back_to_resumer popped bury suspend_running wait_for_another go_into raw_set woken add_coroutine add_printed
last_runs = refl

main_may_yield : told (run yieldable_row [] (given 0 [])) ≡ Some (returned, known (boolean true) ∷ [])
unfolding opcodes number_of int_wrap digits put_frames put_top push pop write_cell with_own put_coroutine back_to_resumer popped bury suspend_running wait_for_another go_into raw_set woken add_coroutine add_printed
main_may_yield = refl

abbrev printed_by : Outcome → List ℕ
printed_by trapped = []
printed_by (ends e W) = W.printed

prints_behind : printed_by (run print_row [] (record (given 0 (text (codes "b") ∷ [])) { printed = codes "a" })) ≡ codes "ab"
unfolding opcodes number_of int_wrap digits put_frames put_top push pop write_cell with_own put_coroutine back_to_resumer popped bury suspend_running wait_for_another go_into raw_set woken add_coroutine add_printed
prints_behind = refl

-- library rows, by their numbers

abbrev called_by : ℕ → List Value → Option (Ending × List Value)
called_by n vs = told (run (row_numbered traps n) [] (given 0 vs))

type_of_number : called_by 13 (int 5 ∷ []) ≡ Some (returned, text (codes "number") ∷ [])
unfolding opcodes number_of int_wrap digits put_frames put_top push pop write_cell with_own put_coroutine back_to_resumer raw_set woken add_coroutine add_printed
type_of_number = refl

select_counts : called_by 10 (text (codes "#") ∷ int 1 ∷ known nil ∷ []) ≡ Some (returned, int 2 ∷ [])
unfolding opcodes number_of int_wrap digits put_frames put_top push pop write_cell with_own put_coroutine back_to_resumer raw_set woken add_coroutine add_printed
select_counts = refl

assert_raises : called_by 0 (known (boolean false) ∷ int 7 ∷ []) ≡ Some (raised, int 7 ∷ [])
unfolding opcodes number_of int_wrap digits put_frames put_top push pop write_cell with_own put_coroutine back_to_resumer raw_set woken add_coroutine add_printed
assert_raises = refl

rawlen_refuses : called_by 8 (int 5 ∷ []) ≡ Some (raised, text (codes "bad argument #1 to 'rawlen' (table or string expected, got number)") ∷ [])
unfolding opcodes number_of int_wrap digits put_frames put_top push pop write_cell with_own put_coroutine back_to_resumer raw_set woken add_coroutine add_printed
rawlen_refuses = refl

status_by_number : called_by 20 (object a_coroutine 0 ∷ []) ≡ Some (returned, text (codes "running") ∷ [])
unfolding opcodes number_of int_wrap digits put_frames put_top push pop write_cell with_own put_coroutine back_to_resumer raw_set woken add_coroutine add_printed
status_by_number = refl

no_such_number : called_by 60 [] ≡ None
unfolding opcodes number_of int_wrap digits put_frames put_top push pop write_cell with_own put_coroutine back_to_resumer raw_set woken add_coroutine add_printed
no_such_number = refl

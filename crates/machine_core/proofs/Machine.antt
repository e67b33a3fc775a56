-- Short codes with their worlds and endings, by the machine's definition. Expected endings are those of the Lua 5.4 manual.
use Rattle.std.proofs.Common.{◌≡◌, ℕ, ◌+◌, true, false, Bool, List, [], ◌∷◌, ◌++◌, Option, Some, None, refl}
use Rattle.std.specs.Prelude.{pos, codes, slice_get}
use Rattle.code_core.specs.declared.instruction.Instruction.{Instruction}
use Rattle.code_core.specs.declared.opcode.Opcode.TheVariants.{Move, LoadI, GetUpval, SetUpval, SetTable, AddI, Add, IDiv, MmBin, MmBinI, Len, Tbc, Jmp, Call, Return, Return0, Return1, ForLoop, ForPrep, Closure}
use Rattle.code_core.specs.declared.proto.Const.{Const}
use Rattle.code_core.specs.declared.proto.UpDesc.{UpDesc}
use Rattle.code_core.specs.Instruction.{abc, abx, op_ax}
use Rattle.code_core.specs.Prototype.{Prototype, prototypes, stripped}
use Rattle.int_core.specs.Value.{boolean, integer, string, primitive, a_table, a_function, a_coroutine, Value, known, object}
use Rattle.int_core.specs.Heap.{Table, raw_set}
use Rattle.machine_core.specs.World.{Function, Cell, closed, fresh, in_progress, World, put_frames, put_top, push, pop, write_cell}
use Rattle.std.specs.Int.{int_wrap}
use Rattle.code_core.specs.Opcode.{opcodes, number_of}
use Rattle.machine_core.specs.Moves.{with_own, put_coroutine, back_to_resumer, popped, bury, suspend_running, wait_for_another, go_into, new_frame, Ending, go, spent, main_returned, main_failed, Row, traps, Outcome, trapped, ends}
use Rattle.machine_core.specs.MachineStep.{woken, pcall_row, xpcall_row, error_row, resume_row, yield_row, close_row, steps}

-- the primitives of these worlds, by their numbers
abbrev pub primitives : ℕ → Row
primitives n = elim (slice_get (pcall_row ∷ xpcall_row ∷ error_row ∷ resume_row ∷ yield_row ∷ close_row ∷ []) n) [ None ↦ traps | Some row ↦ row ]

abbrev pub code : ℕ → Bool → ℕ → List Const → List UpDesc → List Prototype → List Instruction → Prototype
code params vararg stack constants upvalues inner words = stripped params vararg stack words constants upvalues (prototypes inner)

-- a function without parameters
abbrev pub plain : ℕ → List Instruction → Prototype
plain stack words = code 0 false stack [] [] [] words

abbrev pub int : ℕ → Value
int n = known (integer (pos n))

abbrev pub text : List ℕ → Value
text s = known (string s)

-- a world whose main coroutine begins with function 0
abbrev pub started : ℕ → List Function → List Cell → List Table → List Value → World
started fuel functions cells tables arguments = record {
  heap = record { tables = tables; string_metatable = None };
  functions = functions;
  cells = cells;
  coroutines = in_progress (elim (slice_get functions 0) [ None ↦ [] | Some f ↦ new_frame 0 f.code arguments ∷ [] ]) ∷ [];
  globals = 0;
  prelude_environment = 0;
  prelude_functions = [];
  special_key = [];
  max_depth = pos 0;
  main = Some 0;
  chain = 0 ∷ [];
  moving = [];
  printed = [];
  fuel = fuel;
}

-- how a run ended, with what on its way, and what is left of the budget
abbrev pub ending : Outcome → Option (Ending × List Value × ℕ)
ending trapped = None
ending (ends e W) = Some (e, W.moving, W.fuel)

abbrev pub runs : ℕ → World → Option (Ending × List Value × ℕ)
runs n W = ending (steps primitives n go W)

abbrev pub alone : Prototype → List Function
alone p = record { code = p; cells = [] } ∷ []

abbrev pub load : ℕ → ℕ → Instruction
load r n = abx LoadI r (65535 + n)

abbrev pub jump : ℕ → Instruction
jump n = op_ax Jmp (16777215 + n)

-- return 1 + 2
add_two : runs 9 (started 0 (alone (plain 3 (load 0 1 ∷ load 1 2 ∷ abc Add 2 0 1 false ∷ abc MmBin 0 1 6 false ∷ abc Return1 2 2 0 false ∷ []))) [] [] []) ≡ Some (main_returned, int 3 ∷ [], 0)
unfolding opcodes number_of int_wrap put_frames put_top push pop write_cell with_own put_coroutine back_to_resumer popped bury suspend_running wait_for_another go_into raw_set woken
add_two = refl

-- return, which names no register, whatever A is
return_nothing : runs 9 (started 0 (alone (plain 1 (abc Return 2 1 0 false ∷ []))) [] [] []) ≡ Some (main_returned, [], 0)
unfolding opcodes number_of int_wrap put_frames put_top push pop write_cell with_own put_coroutine back_to_resumer popped bury suspend_running wait_for_another go_into raw_set woken
return_nothing = refl

-- return 7 // 0
by_zero : runs 9 (started 0 (alone (plain 3 (load 0 7 ∷ load 1 0 ∷ abc IDiv 2 0 1 false ∷ abc MmBin 0 1 12 false ∷ abc Return1 2 2 0 false ∷ []))) [] [] []) ≡ Some (main_failed, text (codes "attempt to perform 'n//0'") ∷ [], 0)
unfolding opcodes number_of int_wrap put_frames put_top push pop write_cell with_own put_coroutine back_to_resumer popped bury suspend_running wait_for_another go_into raw_set woken
by_zero = refl

-- local x = 5; local f = function() x = x + 1 return x end; x = 7; return x, f()
abbrev pub counts : Prototype
counts = code 0 false 2 [] (record { in_stack = true; index = 0; kind = 0 } ∷ []) [] (abc GetUpval 0 0 0 false ∷ abc AddI 0 0 128 false ∷ abc MmBinI 0 128 6 false ∷ abc SetUpval 0 0 0 false ∷ abc Return1 0 2 0 false ∷ [])

abbrev pub counted : Prototype
counted = code 0 false 4 [] [] (counts ∷ []) (load 0 5 ∷ abx Closure 1 0 ∷ load 0 7 ∷ abc Move 2 0 0 false ∷ abc Move 3 1 0 false ∷ abc Call 3 1 2 false ∷ abc Move 1 0 0 false ∷ abc Return 0 5 0 false ∷ [])

shared : runs 20 (started 1 (alone counted) [] [] []) ≡ Some (main_returned, int 8 ∷ int 8 ∷ int 7 ∷ int 8 ∷ [], 0)
unfolding opcodes number_of int_wrap put_frames put_top push pop write_cell with_own put_coroutine back_to_resumer popped bury suspend_running wait_for_another go_into raw_set woken
shared = refl

-- the same call, where it cannot be paid
unpaid : runs 20 (started 0 (alone counted) [] [] []) ≡ Some (spent, [], 0)
unfolding opcodes number_of int_wrap put_frames put_top push pop write_cell with_own put_coroutine back_to_resumer popped bury suspend_running wait_for_another go_into raw_set woken
unpaid = refl

-- for i = 1, 3 do s = s + i end return s
abbrev pub loop : ℕ → Option (Ending × List Value × ℕ)
loop fuel = runs 30 (started fuel (alone (plain 5 (load 0 0 ∷ load 1 1 ∷ load 2 3 ∷ load 3 1 ∷ abx ForPrep 1 2 ∷ abc Add 0 0 4 false ∷ abc MmBin 0 4 6 false ∷ abx ForLoop 1 3 ∷ abc Return1 0 2 0 false ∷ []))) [] [] [])

summed : loop 2 ≡ Some (main_returned, int 6 ∷ [], 0)
unfolding opcodes number_of int_wrap put_frames put_top push pop write_cell with_own put_coroutine back_to_resumer popped bury suspend_running wait_for_another go_into raw_set woken
summed = refl

stopped : loop 1 ≡ Some (spent, [], 0)
unfolding opcodes number_of int_wrap put_frames put_top push pop write_cell with_own put_coroutine back_to_resumer popped bury suspend_running wait_for_another go_into raw_set woken
stopped = refl

-- errors, closing variables and message handlers. Table 0 is to be closed, by function 2, which writes the error down in table 2; function 3
-- is a message handler, which writes 7 down and answers its argument and one

abbrev pub log_in : List Instruction → Prototype
log_in words = code 2 false 6 [] (record { in_stack = true; index = 0; kind = 0 } ∷ []) [] (abc GetUpval 2 0 0 false ∷ abc Len 3 2 0 false ∷ abc AddI 3 3 128 false ∷ abc MmBinI 3 128 6 false ∷ words)

abbrev pub closes : Prototype
closes = log_in (abc SetTable 2 3 1 false ∷ abc Return0 0 0 0 false ∷ [])

abbrev pub handles : Prototype
handles = log_in (load 4 7 ∷ abc SetTable 2 3 4 false ∷ abc AddI 0 0 128 false ∷ abc MmBinI 0 128 6 false ∷ abc Return1 0 0 0 false ∷ [])

-- local x <close> = table 0; local y <close> = table 0; error(42)
abbrev pub fails : Prototype
fails = plain 5 (abc GetUpval 0 1 0 false ∷ abc Tbc 0 0 0 false ∷ abc GetUpval 1 1 0 false ∷ abc Tbc 1 0 0 false ∷ abc GetUpval 2 2 0 false ∷ load 3 42 ∷ abc Call 2 2 1 false ∷ abc Return0 0 0 0 false ∷ [])

-- the same with nil + 1 in place of error(42)
abbrev pub faults : Prototype
faults = plain 5 (abc GetUpval 0 1 0 false ∷ abc Tbc 0 0 0 false ∷ abc GetUpval 1 1 0 false ∷ abc Tbc 1 0 0 false ∷ abc AddI 2 2 128 false ∷ abc MmBinI 2 128 6 false ∷ abc Return0 0 0 0 false ∷ [])

-- return p(f, h)
abbrev pub protects : Prototype
protects = code 3 false 3 [] [] [] (abc Call 0 3 0 false ∷ abc Return 0 0 0 false ∷ [])

abbrev pub handler_table : List ℕ → ℕ → Table
handler_table event n = record { rows = (text event, object a_function n) ∷ []; metatable = None }

abbrev pub protected : ℕ → Prototype → ℕ → World
protected fuel f p = started fuel
    (record { code = protects; cells = [] } ∷ record { code = f; cells = 0 ∷ 1 ∷ 2 ∷ [] } ∷ record { code = closes; cells = 0 ∷ [] } ∷ record { code = handles; cells = 0 ∷ [] } ∷ [])
    (closed (object a_table 2) ∷ closed (object a_table 0) ∷ closed (known (primitive 2)) ∷ [])
    (record { rows = []; metatable = Some 1 } ∷ handler_table (codes "__close") 2 ∷ record { rows = []; metatable = None } ∷ [])
    (known (primitive p) ∷ object a_function 1 ∷ object a_function 3 ∷ [])

-- the values of table 2
abbrev pub second : List (Value × Value) → List Value
second [] = []
second (row ∷ rows) = row.1 ∷ second rows

abbrev pub logged : Outcome → List Value
logged trapped = []
logged (ends e W) = elim (slice_get W.heap.tables 2) [ None ↦ [] | Some t ↦ second t.rows ]

abbrev pub told_by : Outcome → Option (Ending × List Value × ℕ) × List Value
told_by o = (ending o, logged o)

abbrev pub result : World → Option (Ending × List Value × ℕ) × List Value
result W = told_by (steps primitives 90 go W)

-- pcall, f, error, and both closing methods
by_pcall : result (protected 5 fails 0) ≡ (Some (main_returned, known (boolean false) ∷ int 42 ∷ [], 0), int 42 ∷ int 42 ∷ [])
unfolding opcodes number_of int_wrap put_frames put_top push pop write_cell with_own put_coroutine back_to_resumer popped bury suspend_running wait_for_another go_into raw_set woken
by_pcall = refl

-- xpcall, f, error, the handler, and both closing methods, which are called after the handler with its answer
by_xpcall : result (protected 6 fails 1) ≡ (Some (main_returned, known (boolean false) ∷ int 43 ∷ [], 0), int 7 ∷ int 43 ∷ int 43 ∷ [])
unfolding opcodes number_of int_wrap put_frames put_top push pop write_cell with_own put_coroutine back_to_resumer popped bury suspend_running wait_for_another go_into raw_set woken
by_xpcall = refl

-- where the second closing method cannot be paid, it moves with its arguments, and the frame waits for it
not_closed : result (protected 5 fails 1) ≡ (Some (spent, object a_function 2 ∷ object a_table 0 ∷ int 43 ∷ [], 0), int 7 ∷ int 43 ∷ [])
unfolding opcodes number_of int_wrap put_frames put_top push pop write_cell with_own put_coroutine back_to_resumer popped bury suspend_running wait_for_another go_into raw_set woken
not_closed = refl

-- where the handler cannot be paid, it moves with the error
handler_unpaid : result (protected 3 fails 1) ≡ (Some (spent, object a_function 3 ∷ int 42 ∷ [], 0), [])
unfolding opcodes number_of int_wrap put_frames put_top push pop write_cell with_own put_coroutine back_to_resumer popped bury suspend_running wait_for_another go_into raw_set woken
handler_unpaid = refl

-- a fault of f's own step; the handler fails on its text, which gives up
own_fault : result (protected 5 faults 1) ≡ (Some (main_returned, known (boolean false) ∷ text (codes "error in error handling") ∷ [], 0), int 7 ∷ text (codes "error in error handling") ∷ text (codes "error in error handling") ∷ [])
unfolding opcodes number_of int_wrap put_frames put_top push pop write_cell with_own put_coroutine back_to_resumer popped bury suspend_running wait_for_another go_into raw_set woken
own_fault = refl

own_fault_caught : result (protected 4 faults 0) ≡ (Some (main_returned, known (boolean false) ∷ text (codes "attempt to perform arithmetic on a nil value") ∷ [], 0), text (codes "attempt to perform arithmetic on a nil value") ∷ text (codes "attempt to perform arithmetic on a nil value") ∷ [])
unfolding opcodes number_of int_wrap put_frames put_top push pop write_cell with_own put_coroutine back_to_resumer popped bury suspend_running wait_for_another go_into raw_set woken
own_fault_caught = refl

-- a closure writes a register of a suspended coroutine: local x = 1; yield(function(v) x = v end) return x
abbrev pub sets : Prototype
sets = code 1 false 1 [] (record { in_stack = true; index = 0; kind = 0 } ∷ []) [] (abc SetUpval 0 0 0 false ∷ abc Return0 0 0 0 false ∷ [])

abbrev pub body : Prototype
body = code 0 false 4 [] [] (sets ∷ []) (load 0 1 ∷ abx Closure 1 0 ∷ abc GetUpval 2 0 0 false ∷ abc Move 3 1 0 false ∷ abc Call 2 2 1 false ∷ abc Return1 0 0 0 false ∷ [])

-- local _, g = resume(co); g(9); return resume(co)
abbrev pub resumes : Prototype
resumes = code 2 false 5 [] [] [] (abc Move 2 0 0 false ∷ abc Move 3 1 0 false ∷ abc Call 2 2 3 false ∷ load 4 9 ∷ abc Call 3 2 1 false ∷ abc Move 2 0 0 false ∷ abc Move 3 1 0 false ∷ abc Call 2 2 0 false ∷ abc Return 2 0 0 false ∷ [])

abbrev pub two_coroutines : ℕ → World
two_coroutines fuel =
    let W = started fuel (record { code = resumes; cells = [] } ∷ record { code = body; cells = 0 ∷ [] } ∷ []) (closed (known (primitive 4)) ∷ []) [] (known (primitive 3) ∷ object a_coroutine 1 ∷ []) in
    record W { coroutines = W.coroutines ++ fresh (object a_function 1) ∷ [] }

suspended_register : runs 40 (two_coroutines 4) ≡ Some (main_returned, known (boolean true) ∷ int 9 ∷ [], 0)
unfolding opcodes number_of int_wrap put_frames put_top push pop write_cell with_own put_coroutine back_to_resumer popped bury suspend_running wait_for_another go_into raw_set woken
suspended_register = refl

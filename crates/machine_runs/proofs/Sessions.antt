-- Sessions of small scripts. What each prints and how it ends is what the manual says of it, in the words of report lines.
use Rattle.std.proofs.Common.{ℕ, ◌≡◌, List, [], ◌∷◌, map, Option, Some, None, refl, true, false}
use Rattle.std.specs.Prelude.{option_map, codes}
use Rattle.std.specs.Fmt.{digits}
use Rattle.code_core.specs.declared.opcode.Opcode.TheVariants.{Move, LoadI, LoadK, GetTabUp, GetField, OpSelf, Call, Return0, Return1}
use Rattle.code_core.specs.declared.instruction.Instruction.{Instruction}
use Rattle.code_core.specs.declared.proto.Const.{Const}
use Rattle.code_core.specs.declared.proto.Const.TheVariants.{Str}
use Rattle.code_core.specs.Opcode.{opcodes, number_of}
use Rattle.code_core.specs.Instruction.{abc, abx}
use Rattle.code_core.specs.Prototype.{Prototype, none, stripped}
use Prim.Native.String.{String}
use Rattle.int_core.specs.Value.{nil, boolean, integer, string, primitive, Value, known, object, table_values}
use Rattle.int_core.specs.Rows.{get}
use Rattle.int_core.specs.Heap.{Table}
use Rattle.library_rows.specs.Library.{Primitive, base_type, string_len, Entry, entry, of_globals, of_coroutine, of_utf8, primitive_at}
use Rattle.machine_core.specs.World.{put_top, put_frames, push, pop}
use Rattle.machine_core.specs.Moves.{traps, with_own, back_to_resumer, popped, bury, suspend_running, wait_for_another, go_into, put_coroutine, add_printed}
use Rattle.machine_core.specs.MachineStep.{woken}
use Rattle.machine_core.specs.PrimitiveRows.{row_numbered}
use Rattle.lua_meaning.specs.Libraries.{primitive_values, constant_values, library_table, environment}
use Rattle.machine_runs.specs.Opening.{opening, begun, handed_line}
use Rattle.machine_runs.specs.Runs.{wakes, Close, has_returned, has_failed, has_spent, is_suspended, Run, run_from}

abbrev function : (params stack : ℕ) → List Instruction → List Const → Prototype
function params stack code constants = stripped params false stack code constants (record { in_stack = true; index = 0; kind = 0 } ∷ []) none

-- function print(s) out(s) end
abbrev print_code : Prototype
print_code = function 1 3 (abc GetTabUp 1 0 0 false ∷ abc Move 2 0 0 false ∷ abc Call 1 2 1 false ∷ abc Return0 1 1 0 false ∷ []) (Str (codes "out") ∷ [])

abbrev prelude : List (Entry Prototype)
prelude = entry of_globals (codes "print") print_code ∷ []

-- print("hi") local line = coroutine.yield(1) return line
abbrev asks_once : Prototype
asks_once = function 0 3 (
    abc GetTabUp 0 0 0 false ∷ abx LoadK 1 1 ∷ abc Call 0 2 1 false
    ∷ abc GetTabUp 0 0 2 false ∷ abc GetField 0 0 3 false ∷ abx LoadI 1 65536 ∷ abc Call 0 2 2 false ∷ abc Return1 0 2 0 false ∷ [])
    (Str (codes "print") ∷ Str (codes "hi") ∷ Str (codes "coroutine") ∷ Str (codes "yield") ∷ [])

-- return ("ab"):upper()
abbrev uses_method : Prototype
uses_method = function 0 3 (abx LoadK 0 0 ∷ abc OpSelf 0 0 1 true ∷ abc Call 0 2 2 false ∷ abc Return1 0 2 0 false ∷ []) (Str (codes "ab") ∷ Str (codes "upper") ∷ [])

-- error("no")
abbrev fails : Prototype
fails = function 0 3 (abc GetTabUp 0 0 0 false ∷ abx LoadK 1 1 ∷ abc Call 0 2 1 false ∷ abc Return0 0 1 0 false ∷ []) (Str (codes "error") ∷ Str (codes "no") ∷ [])

abbrev shown : Option Run → Option (List ℕ × Close)
shown o = option_map (λ (r : Run). (r.printed, r.close)) o

abbrev Says : (main : Prototype) (input : List (List ℕ)) (budget : ℕ) (text : String) → Close → Type 0
Says main input budget text close = shown (run_from (row_numbered traps) 20 (begun (opening prelude) main) input budget) ≡ Some (codes text, close)

sessions_are :
    -- a line is what `coroutine.yield` returns
    Says asks_once (codes "x" ∷ []) 100 "hiyield\t1\nreturn\tx\n" has_returned
    -- without a line the script is suspended
    × Says asks_once [] 100 "hiyield\t1\n" is_suspended
    -- `print` is a call, and so is what it does: one unit suffices for the first of them alone
    × Says asks_once [] 1 "" has_spent
    -- each turn has the whole budget: three calls in the first, none in the second
    × Says asks_once (codes "x" ∷ []) 3 "hiyield\t1\nreturn\tx\n" has_returned
    -- strings have the functions of their library as methods
    × Says uses_method [] 100 "return\tAB\n" has_returned
    -- an error that nothing catches ends the script
    × Says fails [] 100 "error\tno\n" has_failed
unfolding opcodes number_of put_top put_frames push pop with_own back_to_resumer popped bury suspend_running wait_for_another go_into put_coroutine add_printed woken primitive_values constant_values library_table environment opening begun handed_line wakes digits
sessions_are = (refl, refl, refl, refl, refl, refl)

-- the tables

abbrev names : Table → List Value
names t = map (λ (row : Value × Value). row.0) t.rows

abbrev words : List String → List Value
words [] = []
words (s ∷ ss) = known (string (codes s)) ∷ words ss

globals_are : names (library_table of_globals prelude) ≡ words ("_G" ∷ "_VERSION" ∷ "assert" ∷ "collectgarbage" ∷ "coroutine" ∷ "error" ∷ "getmetatable" ∷ "math" ∷ "next" ∷ "pcall" ∷ "print" ∷ "rawequal" ∷ "rawget" ∷ "rawlen" ∷ "rawset" ∷ "select" ∷ "setmetatable" ∷ "string" ∷ "table" ∷ "tonumber" ∷ "type" ∷ "utf8" ∷ "xpcall" ∷ [])
unfolding library_table primitive_values constant_values
globals_are = refl

coroutines_are : names (library_table of_coroutine prelude) ≡ words ("close" ∷ "create" ∷ "isyieldable" ∷ "resume" ∷ "running" ∷ "status" ∷ "yield" ∷ [])
unfolding library_table primitive_values constant_values
coroutines_are = refl

utf8_has : names (library_table of_utf8 prelude) ≡ words ("char" ∷ "charpattern" ∷ "codepoint" ∷ "codes" ∷ "len" ∷ "offset" ∷ [])
unfolding library_table primitive_values constant_values
utf8_has = refl

-- for the prelude's text `type` is that of values, and `len` that of strings

abbrev in_environment : String → Option Primitive
in_environment name = elim (get table_values (environment prelude).rows (known (string (codes name)))) [ known p ↦ elim p [ primitive n ↦ primitive_at n | nil ↦ None | boolean b ↦ None | integer n ↦ None | string s ↦ None ] | object kind n ↦ None ]

type_is_of_values : in_environment "type" ≡ Some base_type
unfolding environment primitive_values
type_is_of_values = refl

len_is_of_strings : in_environment "len" ≡ Some string_len
unfolding environment primitive_values
len_is_of_strings = refl

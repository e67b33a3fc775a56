-- Scripts whose coroutines resume each other, run by the machine over their code. What is expected is what `lua5.4` prints.
use Rattle.std.proofs.Common.{◌≡◌, ℕ, List, [], map, Option, Some, None, refl}
use Prim.Native.String.{String}
use Rattle.std.specs.Prelude.{option_map, codes}
use Rattle.std.specs.Int.{int_wrap}
use Rattle.std.specs.Fmt.{digits}
use Rattle.int_core.specs.Heap.{raw_set}
use Rattle.tree_core.specs.Tree.{Body}
use Rattle.code_core.specs.Opcode.{opcodes, number_of}
use Rattle.code_core.specs.Prototype.{Prototype}
use Rattle.code_of.specs.CodeOf.{code_of}
use Rattle.library_rows.specs.Look.{put_metatable}
use Rattle.library_rows.specs.Library.{Entry}
use Rattle.load_rows.specs.Loading.{refused_at}
use Rattle.lua_meaning.specs.Libraries.{primitive_values, constant_values, library_table, environment}
use Rattle.lua_meaning.specs.Opening.{prelude_of}
use Rattle.machine_core.specs.World.{put_frames, put_top, push, pop, write_cell}
use Rattle.machine_core.specs.Moves.{with_own, put_coroutine, back_to_resumer, popped, bury, suspend_running, wait_for_another, go_into, add_coroutine, add_printed}
use Rattle.machine_core.specs.MachineStep.{woken}
use Rattle.machine_core.specs.PrimitiveRows.{row_numbered, load_row}
use Rattle.machine_runs.specs.Opening.{opening, begun, handed_line}
use Rattle.machine_runs.specs.Runs.{wakes, Close, has_returned, Run, run_from}
use Rattle.meaning_examples.proofs.Prelude.{bodies}
use Rattle.lua_meaning.proofs.Scripts.{usual}
use Rattle.meaning_examples.proofs.Resuming.{hands_to_and_fro, printed_to_and_fro, wraps_twice, printed_by_wraps, logs_closing, printed_while_closing}

-- the prelude's functions are compiled without lines
abbrev compiled : List (Entry Prototype)
compiled = prelude_of (map (code_of None) bodies)

abbrev summary : Run → List ℕ × Close
summary r = (r.printed, r.close)

-- what the machine prints, and how the run ends: these scripts load nothing
abbrev runs : (count : ℕ) → Body → Option (List ℕ × Close)
runs count main =
    option_map summary (run_from (row_numbered (load_row (λ name source. refused_at 1 None))) count (begun (opening compiled) (code_of (Some (codes "@s.lua")) main)) [] usual)

abbrev returned : String → Option (List ℕ × Close)
returned text = Some (codes text, has_returned)

through_pcall : runs 20000 hands_to_and_fro ≡ returned printed_to_and_fro
unfolding opcodes number_of int_wrap digits raw_set put_metatable primitive_values constant_values library_table environment put_frames put_top push pop write_cell with_own put_coroutine back_to_resumer popped bury suspend_running wait_for_another go_into add_coroutine add_printed woken opening begun handed_line wakes
through_pcall = refl

through_wrap : runs 20000 wraps_twice ≡ returned printed_by_wraps
unfolding opcodes number_of int_wrap digits raw_set put_metatable primitive_values constant_values library_table environment put_frames put_top push pop write_cell with_own put_coroutine back_to_resumer popped bury suspend_running wait_for_another go_into add_coroutine add_printed woken opening begun handed_line wakes
through_wrap = refl

from_closing_methods : runs 20000 logs_closing ≡ returned printed_while_closing
unfolding opcodes number_of int_wrap digits raw_set put_metatable primitive_values constant_values library_table environment put_frames put_top push pop write_cell with_own put_coroutine back_to_resumer popped bury suspend_running wait_for_another go_into add_coroutine add_printed woken opening begun handed_line wakes
from_closing_methods = refl

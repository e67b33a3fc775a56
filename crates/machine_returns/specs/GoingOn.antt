-- What is left of an instruction whose frame waited for results or for an error.
use Rattle.std.specs.Prelude.{ℕ, Bool, true, false, List, map}
use Rattle.code_core.specs.Prototype.{Prototype}
use Rattle.code_core.specs.declared.instruction.Instruction.{Instruction}
use Rattle.code_core.specs.declared.opcode.Opcode.{Opcode}
use Rattle.int_core.specs.Ask.{values}
use Rattle.int_core.specs.Value.{Value}
use Rattle.machine_core.specs.InstructionRows.{rest, told_values}
use Rattle.machine_core.specs.FrameRows.{goes_on_by}
use Rattle.machine_core.specs.Moves.{Ending, Row}
use Rattle.table_core.specs.declared.value.Value.{Value as Kept}
use Rattle.lua_stack.specs.Frames.{wait_of}
use Rattle.lua_stack.specs.declared.frame.Wait.{Wait}
use Rattle.lua_heap.specs.declared.world.World.{World as Memory}
use Rattle.lua_heap.specs.Reading.{value}
use Rattle.move_laws.specs.Memory.{IsSafe, Leads}
use Rattle.lua_stack.specs.declared.frame.Wait.TheVariants.{Running, ForCall, ForIterator, ForValue, ForTruth, Dropped, ForConcat, ForClose, Returning, Leaving}

-- whether a frame waits for results or for an error, and not for the value of an operation
abbrev pub waits_for_call : Wait → Bool
waits_for_call Running = false
waits_for_call ForCall = true
waits_for_call ForIterator = true
waits_for_call ForValue = false
waits_for_call ForTruth = false
waits_for_call Dropped = false
waits_for_call (ForConcat left) = false
waits_for_call ForClose = true
waits_for_call (Returning count) = true
waits_for_call (Leaving error) = true

-- the row of what is left, and what it may name

abbrev pub left_row : Memory → Wait → Prototype → ℕ → Opcode → Instruction → Row
left_row W wait p pc op word = goes_on_by (rest (wait_of (value W.strings) wait) p pc op word)

abbrev pub told_so : Memory → Wait → List Kept → List Value
told_so W wait came = told_values (wait_of (value W.strings) wait) (values (map (value W.strings) came))

-- it does not trap, at some place
pub record MayGoOn (W : Memory) (word : Instruction) (wait : Wait) (came : List Kept) : Type 0 where
  pub code : Prototype
  pub pc : ℕ
  pub opcode : Opcode
  pub safe : IsSafe (left_row W wait code pc opcode word) (told_so W wait came) W

-- it leads from one world to another, wherever it stands
pub record GoesOn (old new : Memory) (word : Instruction) (wait : Wait) (came : List Kept) (ending : Ending) : Type 0 where
  pub leads : (code : Prototype) (pc : ℕ) (opcode : Opcode) → Leads (left_row old wait code pc opcode word) (told_so old wait came) old new ending

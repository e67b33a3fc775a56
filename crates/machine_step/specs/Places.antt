-- Where the Lua frame on top is when a step begins.
use Rattle.std.specs.Prelude.{◌≡◌, ◌<◌, ◌^◌, ℕ, List, Option, Some, Bool, true, false, IsTrue, length}
use Rattle.code_core.specs.declared.opcode.Opcode.{Opcode}
use Rattle.code_core.specs.declared.opcode.Opcode.TheVariants.{MmBin, MmBinI, MmBinK}
use Rattle.code_core.specs.declared.instruction.Instruction.{Instruction}
use Rattle.code_core.specs.Instruction.{opcode_of}
use Rattle.code_core.specs.Check.{IsChecked, at}
use Rattle.code_core.specs.Prototype.{Prototype}
use Rattle.int_core.specs.Ask.{values}
use Rattle.int_core.specs.Value.{Value}
use Rattle.machine_core.specs.World.{Place, place_of}
use Rattle.machine_core.specs.InstructionRows.{rest, told_values}
use Rattle.machine_core.specs.FrameRows.{goes_on_by}
use Rattle.machine_core.specs.Moves.{Ending, Row}
use Rattle.machine_sound.specs.Sound.{waits_at, waiting_size}
use Rattle.table_core.specs.declared.value.Value.{Value as Kept}
use Rattle.lua_stack.specs.declared.frame.Wait.{Wait as KeptWait}
use Rattle.lua_stack.specs.declared.frame.Wait.TheVariants.{Dropped, ForConcat, ForTruth, ForValue}
use Rattle.lua_stack.specs.Frames.{wait_of}
use Rattle.lua_heap.specs.declared.world.World.{World as Memory}
use Rattle.lua_heap.specs.Plain.{plain}
use Rattle.lua_heap.specs.Reading.{value}
use Rattle.instruction_forms.specs.declared.form.After.{After}
use Rattle.instruction_forms.specs.declared.form.Form.{Form}
use Rattle.instruction_forms.specs.Forms.{follows}
use Rattle.instruction_forms.specs.Waiting.{form_at}
use Rattle.move_laws.specs.Memory.{IsSafe, IsSound, Leads}
use Rattle.machine_operations.specs.Joining.{AreValid}
use Rattle.machine_returns.specs.GoingOn.{told_so}
use Rattle.step_laws.specs.Steps.{RunsAt, HasForm, WaitsAt, WaitsFor}

-- it runs at an instruction of this form
pub record RunsForm (W : Memory) (pc : ℕ) (form : Form) : Type 0 where
  pub runs : RunsAt W
  pub at : runs.place.top.own.pc ≡ pc
  pub is : form_at runs.opcode runs.instruction ≡ Some form
  pub has : HasForm runs.opcode runs.instruction form
  pub near : pc < 2 ^ 63

-- and the world is sound
pub record MayRun (W : Memory) (pc : ℕ) (form : Form) : Type 0 where
  pub sound : IsSound W
  pub runs : RunsForm W pc form

-- it waits at this word
pub record WaitsHere (W : Memory) (pc : ℕ) (word : Instruction) : Type 0 where
  pub waits : WaitsAt W
  pub goes : WaitsFor W waits
  pub at : waits.place.top.own.pc ≡ pc
  pub is_word : goes.instruction ≡ word
  pub near : pc < 2 ^ 63

-- what is left of an instruction

abbrev pub left_row : Memory → KeptWait → Place → Opcode → Instruction → Row
left_row W wait place op word = goes_on_by (rest (wait_of (value W.strings) wait) place.function.code place.top.own.pc op word)

-- it waited so at this word, and runs again: what is left of the instruction does not trap
pub record IsAwake (W : Memory) (pc : ℕ) (word : Instruction) (wait : KeptWait) (came : List Kept) : Type 0 where
  pub place : Place
  pub is : place_of (plain W 0) ≡ Some place
  pub checked : IsChecked place.function.code
  pub at : place.top.own.pc ≡ pc
  pub near : pc < 2 ^ 63
  pub opcode : Opcode
  pub is_opcode : opcode_of word ≡ Some opcode
  pub fits : IsTrue (waits_at (wait_of (value W.strings) wait) opcode word)
  pub size : length place.top.own.registers ≡ waiting_size (wait_of (value W.strings) wait) word place.function.code.own.stack
  pub safe : IsSafe (left_row W wait place opcode word) (told_so W wait came) W
  pub valid : AreValid W came
  pub joins : (left : ℕ) → wait ≡ ForConcat left → IsSound W

-- what is left of it leads from one world to another
pub record GoesOnSo (old new : Memory) (word : Instruction) (wait : KeptWait) (came : List Kept) (to : Ending) : Type 0 where
  pub leads : (place : Place) → place_of (plain old 0) ≡ Some place → (op : Opcode) → opcode_of word ≡ Some op
      → Leads (left_row old wait place op word) (told_so old wait came) old new to

-- whether a frame waits for the value of an operation
abbrev pub takes_value : KeptWait → Bool
takes_value ForValue = true
takes_value ForTruth = true
takes_value Dropped = true
takes_value _ = false

-- and what becomes of that value
pub record Becomes (wait : KeptWait) (word : Instruction) (after : After) : Type 0 where
  pub is : (f : Kept → Value) (op : Opcode) → opcode_of word ≡ Some op → (p : Prototype) (n : ℕ) → rest (wait_of f wait) p n op word ≡ follows p n after
  pub told : (f : Kept → Value) (vs : List Value) → told_values (wait_of f wait) (values vs) ≡ vs

-- MMBIN and its kin, whose value goes to the register of the instruction before it
abbrev pub is_handled : Option Opcode → Bool
is_handled (Some MmBin) = true
is_handled (Some MmBinI) = true
is_handled (Some MmBinK) = true
is_handled _ = false

-- it runs at this word
pub record RunsWord (W : Memory) (pc : ℕ) (word : Instruction) : Type 0 where
  pub runs : RunsAt W
  pub at : runs.place.top.own.pc ≡ pc
  pub is_word : runs.instruction ≡ word
  pub near : pc < 2 ^ 63

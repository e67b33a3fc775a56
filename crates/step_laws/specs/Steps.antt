-- Steps of the machine between worlds in memory, and what a row can know of the world from which its step begins.
use Rattle.std.specs.Prelude.{◌≡◌, ℕ, Some, IsTrue, length}
use Rattle.code_core.specs.declared.opcode.Opcode.{Opcode}
use Rattle.code_core.specs.declared.instruction.Instruction.{Instruction}
use Rattle.code_core.specs.Instruction.{opcode_of}
use Rattle.code_core.specs.Check.{IsChecked, at}
use Rattle.machine_core.specs.World.{running, Place, place_of}
use Rattle.machine_core.specs.InstructionRows.{row_of}
use Rattle.machine_core.specs.Moves.{Ending, Row, ends}
use Rattle.machine_core.specs.MachineStep.{woken, step}
use Rattle.machine_sound.specs.Sound.{waits_at, waiting_size}
use Rattle.machine_sound.specs.Laws.{SoundAfter}
use Rattle.instruction_forms.specs.declared.form.Form.{Form}
use Rattle.instruction_forms.specs.Forms.{text_of}
use Rattle.lua_heap.specs.declared.world.World.{World as Memory}
use Rattle.lua_heap.specs.Plain.{plain}
use Rattle.move_laws.specs.Memory.{InOrder}

-- a step leads from one world and budget to others, and ends so
pub record Does (rows : ℕ → Row) (from : Ending) (old : Memory) (fuel : ℕ) (new : Memory) (left : ℕ) (to : Ending) : Type 0 where
  pub is : step rows from (plain old fuel) ≡ ends to (plain new left)

-- a world in memory from which the step that follows an ending does not trap
pub record IsReady (primitives : ℕ) (ending : Ending) (W : Memory) : Type 0 where
  pub after : SoundAfter primitives ending (plain W 0)
  pub order : InOrder W

-- the Lua frame on top runs, and is at an instruction of checked code
pub record RunsAt (W : Memory) : Type 0 where
  pub place : Place
  pub is : place_of (plain W 0) ≡ Some place
  pub running : place.top.wait ≡ running
  pub checked : IsChecked place.function.code
  pub instruction : Instruction
  pub at_pc : at place.function.code place.top.own.pc ≡ Some instruction
  pub opcode : Opcode
  pub is_opcode : opcode_of instruction ≡ Some opcode

-- an instruction has a form, wherever it stands
abbrev pub HasForm : Opcode → Instruction → Form → Type 0
HasForm op i form = (p : _) (pc : ℕ) → text_of p pc form ≡ row_of p pc op i

-- the Lua frame on top waits
pub record WaitsAt (W : Memory) : Type 0 where
  pub place : Place
  pub is : place_of (plain W 0) ≡ Some place
  pub waits : place.top.wait ≡ running → ⊥

-- and is at an instruction of checked code that may wait so
pub record WaitsFor (W : Memory) (k : WaitsAt W) : Type 0 where
  pub checked : IsChecked k.place.function.code
  pub instruction : Instruction
  pub at_pc : at k.place.function.code k.place.top.own.pc ≡ Some instruction
  pub opcode : Opcode
  pub is_opcode : opcode_of instruction ≡ Some opcode
  pub fits : IsTrue (waits_at k.place.top.wait opcode instruction)
  pub size : length k.place.top.own.registers ≡ waiting_size k.place.top.wait instruction k.place.function.code.own.stack

-- what moved is taken, and the frame on top, which waited, runs
pub record Wakes (old new : Memory) (place : Place) : Type 0 where
  pub plain : (fuel : ℕ) → plain new fuel ≡ woken (plain old fuel) place.stack place.top

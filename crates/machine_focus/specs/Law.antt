-- What holds of a world whose running frame is held apart, and is sound.
use Rattle.std.specs.Prelude.{ℕ, ◌<◌, ◌≡◌, List, [], length, Some, IsTrue, nat_lt}
use Rattle.std.specs.List.{list_all}
use Rattle.code_core.specs.Check.{at}
use Rattle.code_core.specs.Fields.{registers}
use Rattle.code_core.specs.Instruction.{opcode_of}
use Rattle.code_core.specs.declared.instruction.Instruction.{Instruction}
use Rattle.code_core.specs.declared.opcode.Opcode.{Opcode}
use Rattle.int_core.specs.Value.{Value}
use Rattle.machine_core.specs.InstructionRows.{text_at}
use Rattle.machine_core.specs.Text.{Text}
use Rattle.machine_core.specs.FrameRows.{When, expand_by}
use Rattle.machine_core.specs.Moves.{go, Row, ends, run}
use Rattle.machine_core.specs.MachineStep.{step}
use Rattle.machine_sound.specs.Sound.{Each, sizes, Valid}
use Rattle.machine_sound.specs.Laws.{SoundAfter, PrimitivesSafe}
use Rattle.machine_focus.specs.Focus.{Context, Held, world, Stands, local}

-- the frame on top runs in a sound world
pub record IsReady (primitives : ℕ) (rows : ℕ → Row) (c : Context) (h : Held) : Type 0 where
  pub stands : Stands c
  pub safe : PrimitivesSafe primitives rows
  pub sound : SoundAfter primitives go (world c h)

-- then it is at an instruction of its code, and all registers that this names are there
pub record IsAtInstruction (c : Context) (h : Held) : Type 0 where
  pub word : Instruction
  pub at_pc : at c.closure.code h.own.pc ≡ Some word
  pub opcode : Opcode
  pub is_opcode : opcode_of word ≡ Some opcode
  pub registers_there : IsTrue (list_all (λ r. nat_lt r (length h.own.registers)) (registers opcode word))

-- every value of a register is valid, and so are the function's cells
pub record IsValidFrame (primitives : ℕ) (c : Context) (h : Held) : Type 0 where
  pub registers : Each (Valid (sizes primitives (world c h))) h.own.registers
  pub cells : Each (λ n. n < length h.cells) c.closure.cells

abbrev pub ReadyFramesStand : Type 0
ReadyFramesStand = (primitives : ℕ) (rows : ℕ → Row) (c : Context) (h : Held) → IsReady primitives rows c h → IsAtInstruction c h × IsValidFrame primitives c h

-- what a text does to what is held is what it does to the world, in both readings of its calls
abbrev pub HeldIsRun : Type 0
HeldIsRun = (c : Context) → Stands c → (when : When) (t : Text) (env : List Value) (h k : Held) → local c t env h ≡ Some k → run (expand_by when t) env (world c h) ≡ ends go (world c k)

-- an instruction that the frame does by itself is one step, and the world is sound after it
abbrev pub HeldIsStep : Type 0
HeldIsStep = (primitives : ℕ) (rows : ℕ → Row) (c : Context) (h k : Held) → IsReady primitives rows c h → local c (text_at c.closure.code h.own.pc) [] h ≡ Some k
    → (step rows go (world c h) ≡ ends go (world c k)) × IsReady primitives rows c k

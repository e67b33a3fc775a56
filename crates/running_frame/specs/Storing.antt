-- Stores to variables that stand in registers of frames below, as changes of a stack.
use Rattle.std.specs.Prelude.{◌≡◌, ◌+◌, ◌<◌, ℕ, Bool, true, false, List, [], ◌∷◌, ◌++◌, Option, Some, length, map, slice_get, slice_set}
use Rattle.code_core.specs.declared.instruction.Instruction.{Instruction}
use Rattle.code_core.specs.declared.opcode.Opcode.{Opcode}
use Rattle.code_core.specs.declared.opcode.Opcode.TheVariants.{SetUpval}
use Rattle.code_core.specs.Instruction.{a_of, b_of, opcode_of}
use Rattle.int_core.specs.Value.{Value, known, nil}
use Rattle.machine_core.specs.World.{LuaFrame, Frame, lua, write_in_frame}
use Rattle.table_core.specs.declared.value.CellId.{CellId}
use Rattle.table_core.specs.declared.value.CoroId.{CoroId}
use Rattle.table_core.specs.declared.value.Value.{Value as Kept}
use Rattle.table_core.specs.declared.value.Value.TheVariants.{Nil}
use Rattle.lua_stack.specs.declared.frame.OpenCell.{OpenCell}
use Rattle.lua_stack.specs.Frames.{KeptStack, OnTop, frames, with_pc}
use Rattle.lua_heap.specs.declared.world.Cell.{Cell}
use Rattle.lua_heap.specs.declared.world.Cell.TheVariants.{Open}

-- an instruction that writes an upvalue
abbrev pub is_store : Option Opcode → Bool
is_store (Some SetUpval) = true
is_store _ = false

-- the variable of an upvalue stands in a register of this coroutine, in a frame below the last of so many
pub record StandsBelow (co : ℕ) (upvalues : List CellId) (depth : ℕ) (cells : List Cell) (upvalue : ℕ) (o : OpenCell) : Type 0 where
  pub named : slice_get upvalues upvalue ≡ Some o.cell
  pub coroutine : CoroId
  pub own : coroutine.0 ≡ co
  pub holds : slice_get cells o.cell.0 ≡ Some (Open coroutine o.frame o.register)
  pub deep : o.frame + 1 < depth

-- the variable gets the value of a register of the frame on top, which goes on after; all else stays
pub record StoresOpen (co : ℕ) (upvalues : List CellId) (words : List Instruction) (s u : KeptStack) (cells : List Cell) (pc : ℕ) (w : Instruction) : Type 0 where
  pub is_store : opcode_of w ≡ Some SetUpval
  pub registers : List Kept
  pub are : OnTop s (λ f t. map f registers ≡ t.own.registers)
  pub value : Kept
  pub given : slice_get registers (a_of w) ≡ Some value
  pub variable : OpenCell
  pub stands : StandsBelow co upvalues (length s.frames) cells (b_of w) variable
  pub within : pc + 1 < length words
  pub becomes : (f : Kept → Value) → f Nil ≡ known nil → (below : List Frame) (t : LuaFrame) (g : Frame) → frames f s ≡ below ++ lua t ∷ [] → slice_get below variable.frame ≡ Some g
      → frames f u ≡ slice_set below variable.frame (write_in_frame variable.register (f value) g) ++ lua (with_pc (pc + 1) t) ∷ []

-- Variables of functions around the one that runs, which stand in registers of the same coroutine.
use Rattle.std.specs.Prelude.{◌≡◌, ℕ, Bool, true, false, List, Option, Some, slice_get}
use Rattle.code_core.specs.declared.opcode.Opcode.{Opcode}
use Rattle.code_core.specs.declared.opcode.Opcode.TheVariants.{GetUpval}
use Rattle.lua_stack.specs.Frames.{KeptStack, RegisterIs, cell_at}
use Rattle.table_core.specs.declared.value.CellId.{CellId}
use Rattle.table_core.specs.declared.value.CoroId.{CoroId}
use Rattle.table_core.specs.declared.value.Value.{Value as Kept}
use Rattle.lua_heap.specs.declared.world.Cell.{Cell}
use Rattle.lua_heap.specs.declared.world.Cell.TheVariants.{Open}

-- an instruction that reads an upvalue
abbrev pub is_read : Option Opcode → Bool
is_read (Some GetUpval) = true
is_read _ = false

-- a stack lists the cells that are open in its coroutine
pub record ListsOpen (co : ℕ) (s : KeptStack) (cells : List Cell) : Type 0 where
  pub listed : (id : CellId) (k : CoroId) (frame register : ℕ) → k.0 ≡ co → slice_get cells id.0 ≡ Some (Open k frame register) → cell_at frame register s.open_cells ≡ Some id

-- the variable of an upvalue stands in a register of this coroutine, and has this value
pub record StandsOpen (co : ℕ) (upvalues : List CellId) (s : KeptStack) (cells : List Cell) (upvalue : ℕ) (v : Kept) : Type 0 where
  pub id : CellId
  pub named : slice_get upvalues upvalue ≡ Some id
  pub coroutine : CoroId
  pub frame : ℕ
  pub register : ℕ
  pub own : coroutine.0 ≡ co
  pub holds : slice_get cells id.0 ≡ Some (Open coroutine frame register)
  pub has : RegisterIs s frame register v

-- The cells that are open in stacks: by their own places, and by the lists that stacks keep of them.
use Rattle.std.specs.Prelude.{◌≡◌, ℕ, List, [], ◌∷◌, Option, Some, None, map, slice_get}
use Rattle.table_core.specs.declared.value.CellId.{CellId}
use Rattle.table_core.specs.declared.value.CoroId.{CoroId}
use Rattle.lua_stack.specs.declared.frame.OpenCell.{OpenCell}
use Rattle.lua_stack.specs.Frames.{HasOpen, cell_at}
use Rattle.lua_heap.specs.declared.world.Cell.{Cell}
use Rattle.lua_heap.specs.declared.world.Cell.TheVariants.{Open}
use Rattle.lua_heap.specs.declared.world.Coro.{Coro}
use Rattle.lua_heap.specs.declared.world.Coro.TheVariants.{Fresh, Suspended, Running, Normal, Dead, Failed}
use Rattle.lua_heap.specs.declared.world.World.{World as Memory}

-- the list that a coroutine's stack keeps, where it has a stack
abbrev pub open_cells_in : Coro → Option (List OpenCell)
open_cells_in (Fresh body) = None
open_cells_in (Suspended stack) = Some stack.open_cells
open_cells_in (Running stack) = Some stack.open_cells
open_cells_in (Normal stack) = Some stack.open_cells
open_cells_in Dead = None
open_cells_in (Failed error pending) = None

abbrev pub list_or_empty : Option (List OpenCell) → List OpenCell
list_or_empty None = []
list_or_empty (Some own) = own

-- no register is listed twice
abbrev pub IsOnce : List OpenCell → Type 0
IsOnce [] = Unit {0}
IsOnce (c ∷ cs) = (cell_at c.frame c.register cs ≡ None) × IsOnce cs

-- a stack lists a cell at a register exactly where the cell is open there, no register twice, and an open cell is open in a stack
pub record AreListed (cells : List Cell) (lists : List (Option (List OpenCell))) : Type 0 where
  pub listed : (id : CellId) (co : CoroId) (frame register : ℕ) (own : List OpenCell) → slice_get lists co.0 ≡ Some (Some own)
      → slice_get cells id.0 ≡ Some (Open co frame register) → cell_at frame register own ≡ Some id
  pub opened : (id : CellId) (co : CoroId) (frame register : ℕ) (own : List OpenCell) → slice_get lists co.0 ≡ Some (Some own)
      → cell_at frame register own ≡ Some id → slice_get cells id.0 ≡ Some (Open co frame register)
  pub held : (id : CellId) (co : CoroId) (frame register : ℕ) → slice_get cells id.0 ≡ Some (Open co frame register) → (own : List OpenCell) × (slice_get lists co.0 ≡ Some (Some own))
  pub once : (n : ℕ) (own : List OpenCell) → slice_get lists n ≡ Some (Some own) → IsOnce own

abbrev pub CellsAreListed : Memory → Type 0
CellsAreListed W = AreListed W.cells.objects (map open_cells_in W.coros.objects)

-- a coroutine's stack lists a cell at a register
abbrev pub IsOpenIn : Coro → (frame register : ℕ) → Type 0
IsOpenIn (Fresh body) frame register = ⊥
IsOpenIn (Suspended stack) frame register = HasOpen stack frame register
IsOpenIn (Running stack) frame register = HasOpen stack frame register
IsOpenIn (Normal stack) frame register = HasOpen stack frame register
IsOpenIn Dead frame register = ⊥
IsOpenIn (Failed error pending) frame register = ⊥

-- Cells of the function on top are closed from a register on: each keeps the value from where it was open.
use Rattle.std.specs.Prelude.{◌≡◌, ℕ, List, [], ◌∷◌, ◌++◌, Option, Some, None, length, slice_get}
use Rattle.machine_core.specs.World.{Frame, LuaFrame, lua, in_progress, World, close_from}
use Rattle.table_core.specs.declared.value.CellId.{CellId}
use Rattle.table_core.specs.declared.value.CoroId.{CoroId}
use Rattle.table_core.specs.declared.value.Value.{Value as Kept}
use Rattle.lua_stack.specs.declared.frame.OpenCell.{OpenCell}
use Rattle.lua_stack.specs.Frames.{KeptStack, NoneFrom, OnTop, TakesLast}
use Rattle.lua_heap.specs.declared.world.Coro.{Coro}
use Rattle.lua_heap.specs.declared.world.Coro.TheVariants.{Running}
use Rattle.lua_heap.specs.declared.world.World.{World as Memory}
use Rattle.lua_heap.specs.Cells.{list_or_empty, open_cells_in}

-- the coroutine of a number runs
pub record RunsAt (W : Memory) (co : CoroId) : Type 0 where
  pub stack : KeptStack
  pub there : slice_get W.coros.objects co.0 ≡ Some (Running stack)

abbrev pub count_in : Option Coro → ℕ
count_in None = 0
count_in (Some c) = length (list_or_empty (open_cells_in c))

-- how many cells its stack lists
abbrev pub open_count : Memory → CoroId → ℕ
open_count W co = count_in (slice_get W.coros.objects co.0)

-- a cell of the function on top, at a register or above, leaves the list, and what it has is told
pub record TakesOnTop (old new : Coro) (register : ℕ) (cell : CellId) (value : Kept) : Type 0 where
  pub before : KeptStack
  pub after : KeptStack
  pub open_cell : OpenCell
  pub was : old ≡ Running before
  pub is : new ≡ Running after
  pub frames : after.frames ≡ before.frames
  pub takes : TakesLast before after register open_cell
  pub cell_is : open_cell.cell ≡ cell
  pub value_is : OnTop after (λ f t. slice_get t.own.registers open_cell.register ≡ Some (f value))

abbrev pub NoneOnTop : Coro → ℕ → Type 0
NoneOnTop c register = (stack : KeptStack) → c ≡ Running stack → NoneFrom stack register

-- what holds of the Lua frame on top of a coroutine that runs
abbrev pub WhereLuaRuns : World → (co : ℕ) → (List Frame → LuaFrame → Type 0) → Type 0
WhereLuaRuns V co P = (below : List Frame) (t : LuaFrame) → slice_get V.coroutines co ≡ Some (in_progress (below ++ lua t ∷ [])) → P below t

-- some of the cells are closed that are to be closed, and nothing else has changed
pub record ClosesSome (co register : ℕ) (V U : World) : Type 0 where
  pub rest : U ≡ record V { cells = U.cells }
  pub same : WhereLuaRuns V co (λ below t. close_from co (length below) register t.own.registers U.cells ≡ close_from co (length below) register t.own.registers V.cells)

-- all are closed
abbrev pub ClosesAll : (co register : ℕ) → World → World → Type 0
ClosesAll co register V U = WhereLuaRuns V co (λ below t. U ≡ record V { cells = close_from co (length below) register t.own.registers V.cells })

abbrev pub NoneIsOpen : (co register : ℕ) → World → Type 0
NoneIsOpen co register V = WhereLuaRuns V co (λ below t. close_from co (length below) register t.own.registers V.cells ≡ V.cells)

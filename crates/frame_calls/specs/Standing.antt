-- The Lua frame on top of a stack, held apart from the world around it, and what of it is open or to be closed.
use Rattle.std.specs.Prelude.{◌≡◌, ◌<◌, ◌++◌, ◌∷◌, ℕ, List, [], Some, None, length, map, slice_get}
use Rattle.machine_core.specs.Text.{last_pending}
use Rattle.machine_core.specs.World.{running, LuaFrame, lua, World}
use Rattle.machine_focus.specs.Focus.{stacked}
use Rattle.machine_focus.specs.Law.{IsReady}
use Rattle.lua_stack.specs.declared.frame.OpenCell.{OpenCell}
use Rattle.lua_stack.specs.Frames.{KeptStack, NoneFrom, OnTop, cell_at, frames}
use Rattle.table_core.specs.Table.{Contents}
use Rattle.table_core.specs.declared.value.CellId.{CellId}
use Rattle.table_core.specs.declared.value.CoroId.{CoroId}
use Rattle.lua_heap.specs.declared.world.Cell.{Cell}
use Rattle.lua_heap.specs.declared.world.Cell.TheVariants.{Open}
use Rattle.lua_heap.specs.Plain.{heap, cell}
use Rattle.lua_heap.specs.Reading.{value}
use Rattle.machine_arms_tables.specs.Frame.{Code, IsOf}
use Rattle.machine_loop.specs.Running.{Running}

-- a world with this stack for the coroutine that runs, and with these tables and cells, in which nothing moves
abbrev pub standing : Running → KeptStack → List Contents → List Cell → (fuel : ℕ) → World
standing g s tables cells fuel =
    stacked g.around.context.base g.around.context.coroutine (frames (value g.around.texts) s) (heap g.around.texts tables g.string_metatable) (map (cell g.around.texts) cells) fuel []

-- the frame on top of a stack is the one that is held apart, over its function's code, and is ready where it runs; the stack lists the cells that are open in it
pub record MayRun (g : Running) (k : Code) (s : KeptStack) (tables : List Contents) (cells : List Cell) (fuel : ℕ) : Type 0 where
  pub top : LuaFrame
  pub is : frames (value g.around.texts) s ≡ g.around.context.below ++ lua top ∷ []
  pub function : top.function ≡ g.around.context.function
  pub varargs : top.own.varargs ≡ g.around.varargs
  pub pending : top.own.pending ≡ g.around.pending
  pub opened : top.own.opened ≡ g.around.opened
  pub within : top.own.pc < length k.words
  pub closure : IsOf g.around k
  pub listed : (id : CellId) (co : CoroId) (frame register : ℕ) → co.0 ≡ g.around.context.coroutine → slice_get cells id.0 ≡ Some (Open co frame register) → cell_at frame register s.open_cells ≡ Some id
  pub ready : top.wait ≡ running
      → IsReady g.around.primitives g.around.rows g.around.context (record { heap = heap g.around.texts tables g.string_metatable; cells = map (cell g.around.texts) cells; fuel = fuel; own = top.own })

-- it runs, at this place
pub record RunsAt (g : Running) (k : Code) (s : KeptStack) (tables : List Contents) (cells : List Cell) (fuel pc : ℕ) : Type 0 where
  pub may : MayRun g k s tables cells fuel
  pub runs : may.top.wait ≡ running
  pub at_pc : may.top.own.pc ≡ pc

-- from this register on no cell of the frame on top is open, and none of its variables is still to be closed
pub record IsClosedFrom (s : KeptStack) (register : ℕ) : Type 0 where
  pub none : NoneFrom s register
  pub pending : OnTop s (λ f t. last_pending register t.own.pending ≡ None)

-- where the last open cell is one of this frame, it stands below this register
pub record IsAboveLast (cells : List OpenCell) (frame register : ℕ) : Type 0 where
  pub last : (before : List OpenCell) (c : OpenCell) → cells ≡ before ++ c ∷ [] → c.frame ≡ frame → c.register < register

-- Cells of a world in memory: those that are open in a coroutine of the image, and that each can be read.
use Rattle.std.specs.Prelude.{ℕ, ◌<◌, Bool, cond, length, Option, Some, None, IsSome}
use Rattle.lua_heap.specs.declared.world.Cell.{Cell}
use Rattle.lua_heap.specs.declared.world.Cell.TheVariants.{Closed, Open}
use Rattle.lua_heap.specs.declared.world.World.{World as Memory}
use Rattle.lua_heap.specs.Changes.{value_in}
use Rattle.lua_heap.specs.Plain.{plain}
use Rattle.graph_core.specs.declared.object.Object.{Object}
use Rattle.graph_core.specs.declared.object.Sort.TheVariants.{Coro}

abbrev pub coroutine_inside : (ℕ → Bool) → ℕ → Option Object
coroutine_inside inside n = cond (inside n) (Some (record { sort = Coro; number = n })) None

-- the coroutine that the record of a cell names
abbrev pub outer : (ℕ → Bool) → Cell → Option Object
outer inside (Closed v) = None
outer inside (Open coro frame register) = coroutine_inside inside coro.0

-- each cell has a value; that of an open one stands in its register
abbrev pub CellsAreThere : Memory → Type 0
CellsAreThere W = (n : ℕ) → n < length W.cells.objects → IsSome (value_in (plain W 0) n)

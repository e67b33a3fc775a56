-- Where a cell is open in a coroutine of the image.
use Rattle.std.specs.Prelude.{ℕ, Bool, cond, Option, Some, None}
use Rattle.lua_heap.specs.declared.world.Cell.{Cell}
use Rattle.lua_heap.specs.declared.world.Cell.TheVariants.{Closed, Open}
use Rattle.eris_write.specs.declared.cells.OpenPlace.{OpenPlace}

abbrev pub place_inside : (ℕ → Bool) → OpenPlace → Option OpenPlace
place_inside inside place = cond (inside place.coro.0) (Some place) None

abbrev pub open_place : (ℕ → Bool) → Cell → Option OpenPlace
open_place inside (Closed v) = None
open_place inside (Open coro frame register) = place_inside inside (record { coro = coro; frame = frame; register = register })

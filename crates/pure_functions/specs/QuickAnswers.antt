-- Answers that take no memory and change nothing.
use Rattle.std.specs.Prelude.{◌≡◌, true, List, map, Option, Some, None, Ok}
use Rattle.std.specs.List.{list_all}
use Rattle.int_core.specs.Value.{Plain, known}
use Rattle.library_rows.specs.Look.{Look, done}
use Rattle.library_rows.specs.Plainly.{fits_length}
use Rattle.table_core.specs.declared.value.Value.{Value as Kept}
use Rattle.lua_heap.specs.declared.world.World.{World as Memory}
use Rattle.pure_functions.specs.declared.answer.Answer.{Answer}
use Rattle.pure_functions.specs.Answers.{Answers, told, heap_of}

-- what is answered, where anything is, gives these values, of which no string is beyond the limit
abbrev pub IsToldAs : Memory → List Plain → Option Answer → Type 0
IsToldAs W ps None = Unit {0}
IsToldAs W ps (Some answer) = (told W answer ≡ done (heap_of W) (map known ps)) × (list_all fits_length ps ≡ true)

-- and is what the row comes to
abbrev pub IsQuickAnswer : Look → List Kept → Memory → Option Answer → Type 0
IsQuickAnswer row arguments W None = Unit {0}
IsQuickAnswer row arguments W (Some answer) = Answers row arguments W W (Ok answer)

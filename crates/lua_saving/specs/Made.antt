-- What is looked at of a world's prelude.
use Rattle.std.specs.Prelude.{Bool, false, not, ◌==◌}
use Rattle.std.specs.List.{list_any}
use Rattle.table_core.specs.declared.value.CellId.{CellId}
use Rattle.table_core.specs.declared.value.Value.TheVariants.{Table}
use Rattle.lua_heap.specs.declared.world.Cell.{Cell}
use Rattle.lua_heap.specs.declared.world.Cell.TheVariants.{Closed}
use Rattle.lua_heap.specs.declared.world.Func.{Func}
use Rattle.lua_meaning.specs.Libraries.{environment_table}
use Rattle.session_images.specs.Prelude.{environment_cell}

abbrev pub holds_environment : Cell → Bool
holds_environment (Closed (Table id)) = id.0 == environment_table
holds_environment _ = false

abbrev pub is_environment_cell : CellId → Bool
is_environment_cell cell = cell.0 == environment_cell

-- a function that has the cell of the prelude's functions nowhere
abbrev pub is_apart : Func → Bool
is_apart f = not (list_any is_environment_cell f.cells.items)

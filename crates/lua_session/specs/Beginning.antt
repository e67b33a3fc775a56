-- The cells of a main function's outer variables, as they are kept.
use Rattle.std.specs.Prelude.{ℕ, zero, suc, List, [], ◌∷◌, ◌++◌}
use Rattle.table_core.specs.declared.value.TableId.{TableId}
use Rattle.table_core.specs.declared.value.Value.{Value as Kept}
use Rattle.table_core.specs.declared.value.Value.TheVariants.{Nil, Table}
use Rattle.lua_heap.specs.declared.world.Cell.{Cell}
use Rattle.lua_heap.specs.declared.world.Cell.TheVariants.{Closed}

-- the first variable is the table of globals, and any further ones are nil
abbrev pub outer_value : TableId → ℕ → Kept
outer_value globals zero = Table globals
outer_value globals (suc place) = Nil

-- so many cells behind those that are there
abbrev pub kept_cells : List Cell → TableId → (count : ℕ) → List Cell
kept_cells cells globals zero = cells
kept_cells cells globals (suc count) = kept_cells cells globals count ++ Closed (outer_value globals count) ∷ []

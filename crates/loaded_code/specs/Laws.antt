-- What holds of the machine where `load` makes functions of the code of sources.
use Rattle.std.specs.Prelude.{ℕ, ◌^◌, length}
use Rattle.tree_core.specs.Tree.{Body}
use Rattle.library_rows.specs.Library.{all_entries}
use Rattle.load_rows.specs.Loading.{Builds}
use Rattle.machine_core.specs.Moves.{Row}
use Rattle.machine_core.specs.PrimitiveRows.{load_row, row_numbered}
use Rattle.machine_sound.specs.Laws.{BuildsOk, PrimitivesSafe}
use Rattle.machine_runs.specs.Laws.{NeverYields}
use Rattle.machine_ends.specs.Laws.{FallsFrom}
use Rattle.source_builds.specs.Builds.{BuildsSources, code_builds}

-- the row on which `load` stands
abbrev pub load_by : Builds Body → Row
load_by builds = load_row (code_builds builds)

-- the functions of the libraries that are no Lua text
abbrev pub library : Builds Body → ℕ → Row
library builds = row_numbered (load_by builds)

abbrev pub LoadedCodeIsOk : Type 0
LoadedCodeIsOk = (builds : Builds Body) → BuildsSources builds → BuildsOk (code_builds builds)

abbrev pub LoadingIsSafe : Type 0
LoadingIsSafe = (builds : Builds Body) → BuildsSources builds → PrimitivesSafe (length all_entries) (library builds)

-- checked code has fewer instructions than so many
abbrev pub LoadingFalls : Type 0
LoadingFalls = (builds : Builds Body) → BuildsSources builds → FallsFrom (2 ^ 64) (load_by builds)

abbrev pub LoadingNeverYields : Type 0
LoadingNeverYields = (builds : Builds Body) → NeverYields (load_by builds)

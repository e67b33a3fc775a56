-- What is proved of the library's rows.
use Rattle.code_core.specs.Prototype.{Prototype}
use Rattle.load_rows.specs.Loading.{Builds}
use Rattle.std.specs.Prelude.{length}
use Rattle.library_rows.specs.Library.{all_entries}
use Rattle.machine_core.specs.Moves.{Row}
use Rattle.machine_core.specs.PrimitiveRows.{load_row, row_numbered}
use Rattle.machine_sound.specs.Laws.{BuildsOk, PrimitiveGood, PrimitivesSafe}

-- all primitives do what they do in a sound world, where that of `build` does
abbrev pub LibraryIsSafe : Type 0
LibraryIsSafe = (build : Row) → PrimitiveGood (length all_entries) build → PrimitivesSafe (length all_entries) (row_numbered build)

-- so they do where it loads sources that are built to checked code with one outer variable
abbrev pub LibraryThatLoadsIsSafe : Type 0
LibraryThatLoadsIsSafe = (builds : Builds Prototype) → BuildsOk builds → PrimitivesSafe (length all_entries) (row_numbered (load_row builds))

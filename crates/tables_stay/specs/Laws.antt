-- That tables stay tables.
use Rattle.std.specs.Prelude.{ℕ, List}
use Rattle.int_core.specs.Rows.{AreRows}
use Rattle.int_core.specs.Value.{Value, table_values}
use Rattle.int_core.specs.Heap.{Heap}
use Rattle.code_core.specs.Prototype.{Prototype}
use Rattle.library_rows.specs.Look.{Look, Done, done, refused, raised, looked}
use Rattle.load_rows.specs.Loading.{Builds}
use Rattle.lua_meaning.specs.Opening.{prelude_of}
use Rattle.machine_core.specs.World.{World}
use Rattle.machine_core.specs.Moves.{Move, consult, Told, Ending, Row, traps, stop, only, act, Outcome, trapped, ends, run}
use Rattle.machine_core.specs.MachineStep.{steps}
use Rattle.machine_core.specs.PrimitiveRows.{row_numbered, load_row}
use Rattle.machine_sound.specs.Sound.{Each}
use Rattle.machine_runs.specs.Opening.{opening, begun}
use Rattle.machine_runs.specs.Runs.{turn, Run, CodeRun, CodeOnward}

-- no key of a table stands twice, and nil is none (Lua 5.4 manual, 2.1)
abbrev pub AreTables : Heap → Type 0
AreTables H = Each (λ t. AreRows table_values t.rows) H.tables

-- so it is after a library function that looks at values and tables alone, where it was so before

abbrev pub TablesWhenDone : Done → Type 0
TablesWhenDone (done H vs) = AreTables H
TablesWhenDone (refused text) = Unit {0}
TablesWhenDone (raised H v) = AreTables H

abbrev pub LookKeeps : Look → Type 0
LookKeeps l = (env : List Value) (H : Heap) → AreTables H → TablesWhenDone (looked l env H)

-- a row that calls no other library functions than these

abbrev pub MayMove : Move → Type 0
MayMove (consult l slot) = LookKeeps l
MayMove m = Unit {0}

abbrev pub RowKeeps : Row → Type 0
RowKeeps traps = Unit {0}
RowKeeps (stop e) = Unit {0}
RowKeeps (only slot r) = RowKeeps r
RowKeeps (act m k) = MayMove m × ((n : ℕ) (t : Told m) → RowKeeps (k n t))

abbrev pub TablesAtEnd : Outcome → Type 0
TablesAtEnd trapped = Unit {0}
TablesAtEnd (ends e W) = AreTables W.heap

-- it leaves tables
abbrev pub RowsKeep : Type 0
RowsKeep = (r : Row) → RowKeeps r → (env : List Value) (W : World) → AreTables W.heap → TablesAtEnd (run r env W)

-- The row of each function of the libraries is one, where that of `build` is; and so is that of `build`, whatever sources are built to

abbrev pub LibraryKeeps : Type 0
LibraryKeeps = (build : Row) → RowKeeps build → (n : ℕ) → RowKeeps (row_numbered build n)

abbrev pub LoadsKeep : Type 0
LoadsKeep = (builds : Builds Prototype) → RowKeeps (load_row builds)

-- the rows of all primitives are such rows
abbrev pub AllKeep : (ℕ → Row) → Type 0
AllKeep primitives = (n : ℕ) → RowKeeps (primitives n)

abbrev pub StepsKeep : Type 0
StepsKeep = (primitives : ℕ → Row) → AllKeep primitives → (count : ℕ) (e : Ending) (W : World) → AreTables W.heap → TablesAtEnd (steps primitives count e W)

abbrev pub TurnsKeep : Type 0
TurnsKeep = (primitives : ℕ → Row) → AllKeep primitives → (count : ℕ) (W : World) (budget : ℕ) → AreTables W.heap → TablesAtEnd (turn primitives count W budget)

abbrev pub RunsKeep : Type 0
RunsKeep = (primitives : ℕ → Row) → AllKeep primitives → (W : World) (input : List (List ℕ)) (budget : ℕ) (r : Run) → AreTables W.heap → CodeRun primitives W input budget r → AreTables r.last.heap

abbrev pub OnwardKeeps : Type 0
OnwardKeeps = (primitives : ℕ → Row) → AllKeep primitives → (W : World) (input : List (List ℕ)) (budget : ℕ) (r : Run) → AreTables W.heap → CodeOnward primitives W input budget r → AreTables r.last.heap

-- the tables of the libraries are tables, whatever the code of the prelude's functions is, and no table is made where a script begins

abbrev pub OpeningHasTables : Type 0
OpeningHasTables = (codes : List Prototype) → AreTables (opening (prelude_of codes)).heap

abbrev pub BegunKeeps : Type 0
BegunKeeps = (W : World) (main : Prototype) → AreTables W.heap → AreTables (begun W main).heap

-- so tables are tables in the last world of every run of a script
abbrev pub ScriptsHaveTables : Type 0
ScriptsHaveTables =
    (builds : Builds Prototype) (codes : List Prototype) (main : Prototype) (input : List (List ℕ)) (budget : ℕ) (r : Run)
    → CodeRun (row_numbered (load_row builds)) (begun (opening (prelude_of codes)) main) input budget r → AreTables r.last.heap

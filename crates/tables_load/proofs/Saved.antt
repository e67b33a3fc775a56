-- What is written of a session that waits for a line is what it is saved as: its tables are tables.
use Rattle.std.proofs.Common.{ℕ, List}
use Rattle.code_core.specs.Prototype.{Prototype}
use Rattle.library_rows.specs.Library.{Entry}
use Rattle.machine_core.specs.World.{World}
use Rattle.machine_core.specs.PrimitiveRows.{row_numbered}
use Rattle.machine_runs.specs.Opening.{opening, begun}
use Rattle.sessions_join.specs.Sessions.{IsSaved}
use Rattle.tables_stay.specs.Laws.{AreTables, LibraryKeeps, RunsKeep, OnwardKeeps, BegunKeeps}
use Rattle.tables_load.specs.Laws.{SessionsHaveTables, OnwardHasTables, IsSpelled, RunIsSaved, OnwardIsSaved}

saved_so : (prelude : List (Entry Prototype)) (W : World) (bytes : List ℕ) → AreTables W.heap → IsSpelled prelude W bytes → IsSaved prelude W bytes
saved_so prelude W bytes h s = record { written = s.written; size = s.size; kept = record { held = s.held; rows = h } }

pub run_is_saved : LibraryKeeps → BegunKeeps → RunsKeep → RunIsSaved
run_is_saved keep begins runs build b prelude opens code lines budget run c bytes s =
    saved_so prelude run.last bytes (runs (row_numbered build) (keep build b) (begun (opening prelude) code) lines budget run (begins (opening prelude) code opens) c) s

pub onward_has_tables : SessionsHaveTables → LibraryKeeps → OnwardKeeps → OnwardHasTables
onward_has_tables have keep onward build b prelude library opens code_named image session l lines budget run c =
    onward (row_numbered build) (keep build b) session lines budget run (have prelude library opens code_named image session l) c

pub onward_is_saved : SessionsHaveTables → LibraryKeeps → OnwardKeeps → OnwardIsSaved
onward_is_saved have keep onward build b prelude library opens code_named image session l lines budget run c bytes s =
    saved_so prelude run.last bytes (onward_has_tables have keep onward build b prelude library opens code_named image session l lines budget run c) s

-- Rows call no library function that does not keep tables: none of them is called by a row of the machine, and the libraries' rows call those of the libraries.
use Rattle.std.proofs.Common.{Option, Some, None}
use Rattle.library_rows.specs.Look.{Look}
use Rattle.library_rows.specs.Library.{Primitive, primitive_at, row_of}
use Rattle.machine_core.specs.Text.{Text}
use Rattle.machine_core.specs.Moves.{Move, consult, Ending, Row, traps, stop, only, act}
use Rattle.machine_core.specs.FrameRows.{When, expand_by}
use Rattle.machine_core.specs.MachineStep.{look_row}
use Rattle.machine_core.specs.PrimitiveRows.{own_row, primitive_row}
use Rattle.machine_core.proofs.RowWalk.{RowHas, IsNoYield, IsUsual, RowsHave, text_has, look_has, rows_have, own_has}
use Rattle.tables_stay.specs.Laws.{LookKeeps, MayMove, RowKeeps, LibraryKeeps, LoadsKeep}
use Rattle.tables_stay.proofs.Library.{RowOfKeeps, row_of_keeps}

abbrev AnyEnd : Ending → Type 0
AnyEnd e = Unit {0}

may_end : (e : Ending) → IsNoYield e → AnyEnd e
may_end e h = tt

may_move : (m : Move) → IsUsual m → MayMove m
may_move (consult l slot) h = absurd h
may_move _ h = tt

keeps_of : (r : Row) → RowHas AnyEnd MayMove r → RowKeeps r
keeps_of traps h = tt
keeps_of (stop e) h = tt
keeps_of (only slot r) h = keeps_of r h
keeps_of (act m k) h = (h.0, λ n t. keeps_of (k n t) (h.1 n t))

has_of : (r : Row) → RowKeeps r → RowHas AnyEnd MayMove r
has_of traps h = tt
has_of (stop e) h = tt
has_of (only slot r) h = has_of r h
has_of (act m k) h = (h.0, λ n t. has_of (k n t) (h.1 n t))

pub text_keeps : (w : When) (t : Text) → RowKeeps (expand_by w t)
text_keeps w t = keeps_of (expand_by w t) (text_has AnyEnd MayMove may_end may_move (λ n. tt) w t)

pub kept_rows : RowsHave RowKeeps
kept_rows = rows_have AnyEnd MayMove may_end may_move RowKeeps keeps_of

look_keeps : (l : Look) → LookKeeps l → RowKeeps (look_row l)
look_keeps l h = keeps_of (look_row l) (look_has AnyEnd MayMove may_end may_move l (λ slot. h))

pub loads_keep : LoadsKeep
loads_keep builds = kept_rows.of_loads builds

module _ (build : Row) (b : RowKeeps build) where
  row_keeps : (p : Primitive) (o : Option Look) → RowOfKeeps o → RowKeeps (elim o as (λ _. Row) [ Some l ↦ look_row l | None ↦ own_row build p ])
  row_keeps p None h = keeps_of (own_row build p) (own_has AnyEnd MayMove may_end may_move build (has_of build b) p (λ e. tt))
  row_keeps p (Some l) h = look_keeps l h

  numbered_keeps : (o : Option Primitive) → RowKeeps (elim o as (λ _. Row) [ None ↦ traps | Some p ↦ primitive_row build p ])
  numbered_keeps None = tt
  numbered_keeps (Some p) = row_keeps p (row_of p) (row_of_keeps p)

pub library_keeps : LibraryKeeps
library_keeps build b n = numbered_keeps build b (primitive_at n)

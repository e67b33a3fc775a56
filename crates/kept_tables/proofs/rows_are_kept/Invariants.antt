use Rattle.std.specs.Prelude.{ℕ, ◌<◌, ◌≡◌, Some, slice_get}
use Rattle.int_core.specs.Rows.{AreRows}
use Rattle.table_core.specs.Table.{Contents}
use Rattle.table_core.specs.Value.{lua_values}
use Rattle.kept_tables.proofs.rows_are_kept.Given as goal

abbrev pub invariant-loop-at : goal.invariant-loop-at
invariant-loop-at l = (i : ℕ) (t : Contents) → i < l.at → slice_get l.tables.objects i ≡ Some t → AreRows lua_values t.rows

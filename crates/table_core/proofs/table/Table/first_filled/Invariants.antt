use Rattle.std.proofs.Common.{◌≡◌, drop, find}
use Rattle.int_core.specs.Rows.{is_filled}
use Rattle.table_core.specs.Value.{lua_values}
use Rattle.table_core.proofs.table.Table.first_filled.Given as goal

abbrev pub invariant-loop-at : goal.invariant-loop-at
invariant-loop-at l = find (is_filled lua_values) (drop l.from l.self.rows) ≡ find (is_filled lua_values) (drop l.at l.self.rows)

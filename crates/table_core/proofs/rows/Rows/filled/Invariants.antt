use Rattle.std.proofs.Common.{◌≡◌, filter, take}
use Rattle.int_core.specs.Rows.{is_filled}
use Rattle.table_core.specs.Value.{lua_values}
use Rattle.table_core.proofs.rows.Rows.filled.Given as goal

abbrev pub invariant-loop-at : goal.invariant-loop-at
invariant-loop-at l = l.rows ≡ filter (is_filled lua_values) (take l.at l.self)

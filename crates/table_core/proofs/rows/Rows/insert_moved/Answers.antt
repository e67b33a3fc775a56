use Rattle.int_core.specs.Rows.{is_filled}
use Rattle.int_core.proofs.RowsLemmas.{absent-filter}
use Rattle.table_core.specs.Value.{lua_values}
use Rattle.table_core.proofs.ValueLemmas.{lua_values-AreValues}
use Rattle.table_core.proofs.rows.Rows.insert_moved.Goals as goal

pub insert_last-requires : goal.insert_last-requires
insert_last-requires c = rw c.in_ok-rows.ensures (absent-filter lua_values lua_values-AreValues (is_filled lua_values) c.args.self.now c.args.key c.requires)

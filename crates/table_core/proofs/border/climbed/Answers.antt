use Rattle.std.proofs.Common.{◌<◌, arith, subst, sym}
use Rattle.int_core.specs.Rows.{IsBorder}
use Rattle.int_core.proofs.RowsLemmas.{border-length}
use Rattle.table_core.specs.Value.{lua_values}
use Rattle.table_core.proofs.ValueLemmas.{lua_values-AreValues}
use Rattle.table_core.proofs.border.climbed.Goals as goal

pub returns : goal.returns
returns c =
    let rows = c.args.rows.now in
    subst (IsBorder lua_values rows) (sym c.len-most.ensures.len)
    (border-length lua_values lua_values-AreValues rows (λ m below. let under : m < c.loop-n.n = omega arith in c.loop-n.invariant m under))

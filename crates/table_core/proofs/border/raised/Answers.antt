use Rattle.std.proofs.Common.{◌≡◌, ◌<◌, arith, rules, subst, sym}
use Rattle.int_core.specs.Rows.{IsBorder}
use Rattle.int_core.proofs.RowsLemmas.{border-length}
use Rattle.table_core.specs.Value.{lua_values}
use Rattle.table_core.proofs.ValueLemmas.{lua_values-AreValues}
use Rattle.table_core.proofs.border.raised.Goals as goal

pub returns-then-ends : goal.returns-then-ends
returns-then-ends c =
    let rows = c.args.rows.now in
    let n = c.len-most.ensures.len in
    let all : c.args.from ≡ c.len-most.result = search (rules, arith) in
    subst (IsBorder lua_values rows) (sym n)
    (border-length lua_values lua_values-AreValues rows (λ m below. let under : m < c.args.from = omega (arith, all, n) in c.requires m under))

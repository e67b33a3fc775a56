use Rattle.std.proofs.Common.{◌≤◌, arith, subst}
use Rattle.kept_tables.proofs.Rows.{one_more, all_seen}
use Rattle.kept_tables.proofs.rows_are_kept.Goals as goal

pub loop-at-init : goal.loop-at-init
loop-at-init c = λ i t l e. absurd (omega (arith, l))

pub loop-at-preserved : goal.loop-at-preserved
loop-at-preserved c = one_more c.args.tables.now.objects c.loop-at.at c.get.result.now c.loop-at.invariant c.get.ensures c.rows.ensures.are_rows

pub returns : goal.returns
returns c = all_seen c.args.tables.now.objects c.loop-at.at (subst (λ n. n ≤ c.loop-at.at) c.len-at-end.ensures c.loop-at-test.false) c.loop-at.invariant

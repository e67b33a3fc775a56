use Rattle.std.proofs.Common.{rules, arith, ◌≡◌, max}
use Rattle.scope_core.proofs.Holding.{target_step}
use Rattle.scope_core.proofs.held.held_by_targets.Goals as goal

pub loop-target-preserved : goal.loop-target-preserved
loop-target-preserved c =
    let m : c.max-most.result ≡ max c.loop-target.most c.capped.result = search rules in (
      omega (arith, c.capped-next.ensures),
      omega (arith, m, c.capped.ensures, c.loop-target.invariant.1),
      target_step c.args.targets.now c.loop-target.target-index c.target-item.result c.loop-target.next c.loop-target.most c.held_by.result c.capped.result c.capped-next.result c.max-most.result _
          (omega (arith, c.loop-target-test.true, c.loop-target.auto.target-index-end)) c.target-item.is c.loop-target.invariant.2 c.held_by.ensures c.capped.ensures m c.capped-next.ensures,
    )

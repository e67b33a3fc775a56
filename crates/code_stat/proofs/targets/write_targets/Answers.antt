use Rattle.std.proofs.Common.{arith, ◌≡◌, ◌+◌, ◌<◌, length}
use Rattle.code_stat.proofs.Going.{next_target}
use Rattle.code_stat.proofs.targets.write_targets.Goals as goal

pub loop-target-preserved : goal.loop-target-preserved
loop-target-preserved c =
    let inside : c.loop-target.target-index < length c.deref-target-items.result.now = omega (arith, c.loop-target-test.true, c.loop-target.auto.target-index-end) in
    let two : c.in_ok-register.register ≡ c.loop-target.register + 2 = omega (arith, c.in_ok-next.ensures, c.in_ok-register.ensures) in
    next_target c.deref-target-items.result.now c.loop-target.target-index c.target-item.result c.loop-target.emitter c.write_target.new.emitter c.loop-target.register c.in_ok-register.register _ inside c.target-item.is
    c.in_ok-write_target.ensures two c.loop-target.invariant

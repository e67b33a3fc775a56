use Rattle.std.proofs.Common.{arith, ◌<◌, ◌≤◌, length}
use Rattle.code_stat.specs.Drafts.{landing_if}
use Rattle.code_stat.proofs.Leading.{none_found, next_found, all_found}
use Rattle.code_stat.proofs.jumps.find.Goals as goal

pub loop-label-init : goal.loop-label-init
loop-label-init c = none_found c.args.name.now c.args.passed.now.items c.deref-label-items.result.now c.deref-label-items.ensures.value

pub loop-label-preserved : goal.loop-label-preserved
loop-label-preserved c =
    let inside : c.loop-label.label-index < length c.deref-label-items.result.now = omega (arith, c.loop-label-test.true, c.loop-label.auto.label-index-end) in
    next_found c.args.name.now c.deref-label-items.result.now c.loop-label.label-index c.label-item.result (landing_if c.loop-label.found) (landing_if c.nearer-found.result) _ inside c.label-item.is c.nearer-found.ensures c.loop-label.invariant

pub returns : goal.returns
returns c =
    let over : length c.deref-label-items.result.now ≤ c.loop-label.label-index = omega (arith, c.loop-label-test.false) in
    all_found c.args.name.now c.deref-label-items.result.now c.loop-label.label-index (landing_if c.loop-label.found) _ over c.loop-label.invariant

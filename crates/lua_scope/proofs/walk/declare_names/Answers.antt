use Rattle.std.proofs.Common.{arith}
use Rattle.lua_scope.proofs.Declaring.{each_name, declaring_on, all_declared}
use Rattle.lua_scope.proofs.walk.declare_names.Goals as goal

pub loop-name-preserved : goal.loop-name-preserved
loop-name-preserved c = declaring_on each_name c.loop-name.nesting c.loop-name.least.violation c.deref-name-items.result.now c.loop-name.name-index c.name-item.result (omega (arith, c.loop-name-test.true, c.loop-name.auto.name-index-end)) c.name-item.is c.in_ok-declare_name.ensures.nesting c.in_ok-declare_name.ensures.met c.loop-name.invariant

pub returns : goal.returns
returns c =
    let all = all_declared each_name c.loop-name.nesting c.loop-name.least.violation c.deref-name-items.result.now c.loop-name.name-index (omega (arith, c.loop-name-test.false, c.loop-name.auto.name-index-end)) c.loop-name.invariant in record { nesting = all.0; met = all.1 }

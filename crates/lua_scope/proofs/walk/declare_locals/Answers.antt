use Rattle.std.proofs.Common.{arith}
use Rattle.lua_scope.proofs.Declaring.{each_declared, declaring_on, all_declared}
use Rattle.lua_scope.proofs.walk.declare_locals.Goals as goal

pub loop-declared-preserved : goal.loop-declared-preserved
loop-declared-preserved c = declaring_on each_declared c.loop-declared.nesting c.loop-declared.least.violation c.deref-declared-items.result.now c.loop-declared.declared-index c.declared-item.result (omega (arith, c.loop-declared-test.true, c.loop-declared.auto.declared-index-end)) c.declared-item.is c.in_ok-declare_local.ensures.nesting c.in_ok-declare_local.ensures.met c.loop-declared.invariant

pub returns : goal.returns
returns c =
    let all = all_declared each_declared c.loop-declared.nesting c.loop-declared.least.violation c.deref-declared-items.result.now c.loop-declared.declared-index (omega (arith, c.loop-declared-test.false, c.loop-declared.auto.declared-index-end)) c.loop-declared.invariant in record { nesting = all.0; met = all.1 }

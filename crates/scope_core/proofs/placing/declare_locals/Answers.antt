use Rattle.std.proofs.Common.{arith}
use Rattle.scope_core.proofs.Going.{going_on}
use Rattle.scope_core.proofs.Declaring.{locals_walk, all_declared}
use Rattle.scope_core.proofs.placing.declare_locals.Goals as goal

pub loop-declared-preserved : goal.loop-declared-preserved
loop-declared-preserved c = going_on c.declared-item.result c.loop-declared.invariant (omega (arith, c.loop-declared-test.true, c.loop-declared.auto.declared-items)) c.in_ok-declare_local.ensures.after c.in_ok-declare_local.ensures.placed

pub returns : goal.returns
returns c =
    let all = all_declared locals_walk c.args.names.now c.loop-declared.invariant (omega (arith, c.loop-declared-test.false, c.loop-declared.auto.declared-items)) c.loop-declared.auto.declared-items c.deref_mut-declared-items.ensures.value in record { after = all.0; placed = all.1 }

use Rattle.std.proofs.Common.{arith}
use Rattle.scope_core.proofs.Going.{going_on}
use Rattle.scope_core.proofs.Declaring.{names_walk, all_declared}
use Rattle.scope_core.proofs.placing.declare_names.Goals as goal

pub loop-name-preserved : goal.loop-name-preserved
loop-name-preserved c = going_on c.name-item.result c.loop-name.invariant (omega (arith, c.loop-name-test.true, c.loop-name.auto.name-items)) c.in_ok-declare_name.ensures.after c.in_ok-declare_name.ensures.placed

pub returns : goal.returns
returns c =
    let all = all_declared names_walk c.args.names.now c.loop-name.invariant (omega (arith, c.loop-name-test.false, c.loop-name.auto.name-items)) c.loop-name.auto.name-items c.deref_mut-name-items.ensures.value in record { after = all.0; placed = all.1 }

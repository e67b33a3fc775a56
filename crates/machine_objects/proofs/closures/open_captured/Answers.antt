use Rattle.std.proofs.Common.{drop, sym, subst}
use Rattle.move_laws.proofs.Kept.{order_with_cells}
use Rattle.machine_objects.specs.Opening.{MayOpen}
use Rattle.machine_objects.proofs.Opened.{none_so_far, one_more, may_go_on, upvalues_same}
use Rattle.machine_objects.proofs.closures.open_captured.Goals as goal

pub loop-at-init : goal.loop-at-init
loop-at-init c = none_so_far c.args.world.now c.args.code c.requires.order.listed

pub open_upvalue-requires-clause-order : goal.open_upvalue-requires-clause-order
open_upvalue-requires-clause-order c = order_with_cells c.requires.order c.loop-at.invariant.rest c.loop-at.invariant.listed

pub open_upvalue-requires-clause-safe : goal.open_upvalue-requires-clause-safe
open_upvalue-requires-clause-safe c =
    let a = c.loop-at.invariant in
    subst (λ us. MayOpen c.loop-at.world (drop c.loop-at.at us)) (sym (upvalues_same c.args.world.now c.loop-at.world c.args.code a.rest)) (may_go_on c.requires.safe a.opens)

pub loop-at-preserved : goal.loop-at-preserved
loop-at-preserved c = one_more c.loop-at.invariant c.in_ok-open_upvalue.ensures.opens c.open_upvalue.ensures.listed c.open_upvalue.ensures.rest

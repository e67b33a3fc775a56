use Rattle.table_core.specs.declared.value.Value.TheVariants.{Nil}
use Rattle.machine_moves.specs.Ending.{ending_of}
use Rattle.machine_returns.proofs.Closed.{closes_at_once, may_call, where_ok}
use Rattle.machine_returns.proofs.closables.call_to_close.Goals as goal

pub call_over-requires-clause-safe : goal.call_over-requires-clause-safe
call_over-requires-clause-safe c =
    may_call c.args.world.now c.args.v Nil c.find_close-method.result c.in_ok-arguments.arguments.items c.args.wait c.args.prepared c.find_close-method.ensures.finds c.in_ok-arguments.ensures c.requires.safe

pub returns-clause-steps : goal.returns-clause-steps
returns-clause-steps c =
    where_ok c.call_over.result c.call_over.ensures.steps (λ ending calls.
    closes_at_once c.args.world.now c.args.v Nil c.find_close-method.result c.in_ok-arguments.arguments.items c.args.wait c.args.prepared c.find_close-method.ensures.finds c.in_ok-arguments.ensures
    c.call_over.new.world c.args.budget.now c.call_over.new.budget (ending_of ending) calls)

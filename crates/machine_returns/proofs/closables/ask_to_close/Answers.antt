use Rattle.machine_moves.specs.Ending.{ending_of}
use Rattle.machine_returns.proofs.Closed.{closes_by_asking, where_ok}
use Rattle.machine_returns.proofs.closables.ask_to_close.Goals as goal

pub returns-clause-leads : goal.returns-clause-leads
returns-clause-leads c =
    where_ok c.ask_over.result c.ask_over.ensures.leads (λ ending asks.
    closes_by_asking c.args.world.now c.args.v c.args.error c.find_close-method.result c.in_ok-arguments.arguments.items c.args.wait c.args.prepared c.find_close-method.ensures.finds c.in_ok-arguments.ensures
    c.ask_over.new.world (ending_of ending) asks)

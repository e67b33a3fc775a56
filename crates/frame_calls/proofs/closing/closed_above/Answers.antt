use Rattle.frame_calls.proofs.Closed.{closed_so}
use Rattle.frame_calls.proofs.closing.closed_above.Goals as goal

pub returns-in-None-last_pending-clause-closed : goal.returns-in-None-last_pending-clause-closed
returns-in-None-last_pending-clause-closed c =
    let t = c.take_cell_from.ensures in
    closed_so c.args.stack.now c.take_cell_from.new.self c.in_ok-register.register c.take_cell_from.result c.last_pending.result c.in-None.is t.none t.kept c.in-None-last_pending.is c.last_pending.ensures

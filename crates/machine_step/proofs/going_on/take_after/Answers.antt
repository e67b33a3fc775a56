use Rattle.machine_step.proofs.Awake.{has_code, may_take, room, stands, took}
use Rattle.machine_step.proofs.going_on.take_after.Goals as goal

pub take_value-requires : goal.take_value-requires
take_value-requires c =
    let a = c.requires.awake in
    record { order = c.requires.order; code = has_code a; at = stands a; room = room a; safe = may_take a c.after_wait.ensures }

pub returns-clause-goes : goal.returns-clause-goes
returns-clause-goes c = took c.requires.awake c.after_wait.ensures c.take_value.ensures.leads

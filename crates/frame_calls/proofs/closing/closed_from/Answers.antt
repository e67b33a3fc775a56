use Rattle.frame_calls.proofs.closing.closed_from.Goals as goal

pub returns-then-is_bare-clause-closed : goal.returns-then-is_bare-clause-closed
returns-then-is_bare-clause-closed c = c.is_bare.ensures c.if-is_bare.true

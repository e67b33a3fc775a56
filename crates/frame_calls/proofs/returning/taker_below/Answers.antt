use Rattle.frame_calls.proofs.returning.taker_below.Goals as goal

pub returns : goal.returns
returns c = record { caller = c.in_ok-caller.caller; calls = c.in_ok-caller.ensures; takes = c.in_ok-taker.ensures }

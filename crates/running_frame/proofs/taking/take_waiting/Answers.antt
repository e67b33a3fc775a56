use Rattle.std.proofs.Common.{inl, inr, ◌∙◌}
use Rattle.running_frame.proofs.Taken.{waiting_kept}
use Rattle.frame_calls.proofs.Takers.{both_changes, top_after}
use Rattle.running_frame.proofs.taking.take_waiting.Goals as goal

pub hand-requires : goal.hand-requires
hand-requires c = record { few = c.in-Some.ensures.takes.few; room = waiting_kept _ c.requires.top c.in_ok-caller.ensures c.in-Some.ensures.takes.room }

pub returns-in-Some-clause-takes : goal.returns-in-Some-clause-takes
returns-in-Some-clause-takes c = inl (record { caller = c.in_ok-caller.caller; waits = c.in_ok-caller.ensures; taker = c.in-Some.taker; takes = c.in-Some.ensures; hands = c.hand.ensures })

pub hand-requires-2 : goal.hand-requires-2
hand-requires-2 c = record { few = c.in_ok-taker.ensures.takes.few; room = waiting_kept _ c.requires.top c.in_ok-caller.ensures c.in_ok-taker.ensures.takes.room }

pub set_opened-requires : goal.set_opened-requires
set_opened-requires c = top_after (waiting_kept _ c.requires.top c.in_ok-caller.ensures c.in_ok-taker.ensures.takes.room) c.hand-2.ensures

pub returns-clause-takes : goal.returns-clause-takes
returns-clause-takes c =
    inr (record { caller = c.in_ok-caller.caller; waits = c.in_ok-caller.ensures; taker = c.in_ok-taker.taker; takes = c.in_ok-taker.ensures; hands = both_changes c.hand-2.ensures c.set_opened.ensures })

pub returns-clause-listed : goal.returns-clause-listed
returns-clause-listed c = c.set_opened.ensures.cells ∙ c.hand-2.ensures.cells

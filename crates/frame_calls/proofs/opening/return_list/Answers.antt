use Rattle.std.proofs.Common.{subst, ◌∙◌}
use Rattle.frame_calls.specs.Returning.{HandsBack}
use Rattle.frame_calls.proofs.Takers.{caller_kept, top_after}
use Rattle.frame_calls.proofs.opening.return_list.Goals as goal

pub hand_back-requires : goal.hand_back-requires
hand_back-requires c = record {
  top = c.requires.may.top;
  closed = c.requires.closed.none;
  few = c.in_ok-taker.ensures.takes.few;
  below = record { caller = c.in_ok-caller.caller; calls = c.in_ok-caller.ensures; room = c.in_ok-taker.ensures.takes.room };
}

pub set_opened-requires : goal.set_opened-requires
set_opened-requires c =
    let back = c.in_ok-hand_back.ensures.back in
    top_after (caller_kept _ c.in_ok-caller.ensures back.pops c.in_ok-taker.ensures.takes.room) back.hands

pub returns-clause-returns : goal.returns-clause-returns
returns-clause-returns c = record {
  count = c.args.count;
  is = c.requires.says;
  closed = c.requires.closed;
  taker = c.in_ok-taker.taker;
  below = record { caller = c.in_ok-caller.caller; calls = c.in_ok-caller.ensures; takes = c.in_ok-taker.ensures };
  handed = c.hand_back.new.stack;
  back = subst (λ a. HandsBack c.args.stack.now c.hand_back.new.stack a c.args.count c.in_ok-taker.taker) c.a.ensures c.in_ok-hand_back.ensures.back;
  opens = c.set_opened.ensures;
}

pub returns-clause-listed : goal.returns-clause-listed
returns-clause-listed c = c.set_opened.ensures.cells ∙ c.in_ok-hand_back.ensures.listed

use Rattle.std.proofs.Common.{◌∙◌}
use Rattle.frame_calls.proofs.Takers.{caller_kept, frames_there}
use Rattle.frame_calls.proofs.returning.hand_back.Goals as goal

pub pop-requires : goal.pop-requires
pop-requires c = record { there = frames_there c.requires.top; closed = λ f below t e. c.requires.closed }

pub hand-requires : goal.hand-requires
hand-requires c = record { few = c.requires.few; room = caller_kept _ c.requires.below.calls c.pop.ensures.frames c.requires.below.room }

pub returns-clause-back : goal.returns-clause-back
returns-clause-back c = record {
  registers = c.registers.result.now;
  are = c.registers.ensures;
  given = c.in_ok-given.given;
  gives = c.in_ok-given.ensures;
  popped = c.pop.new.self;
  pops = c.pop.ensures.frames;
  hands = c.hand.ensures;
  listed = c.hand.ensures.cells ∙ c.pop.ensures.cells;
}

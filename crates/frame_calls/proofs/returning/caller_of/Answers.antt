use Rattle.frame_calls.proofs.Takers.{caller_there}
use Rattle.frame_calls.proofs.returning.caller_of.Goals as goal

pub returns : goal.returns
returns c = caller_there c.args.stack.now c.below_top.result c.below_top.ensures

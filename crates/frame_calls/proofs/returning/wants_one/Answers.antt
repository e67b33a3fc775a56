use Rattle.std.proofs.Common.{arith, rules}
use Rattle.frame_calls.proofs.returning.wants_one.Goals as goal

pub returns : goal.returns
returns c = λ yes. search (rules, arith)

use Rattle.std.proofs.Common.{refl, arith, rules}
use Rattle.frame_calls.proofs.calling.shape_of.Goals as goal

pub returns : goal.returns
returns c = record { code = c.in_ok-code.code.now; there = c.in_ok-code.ensures; is = refl; params = search (rules, arith) }

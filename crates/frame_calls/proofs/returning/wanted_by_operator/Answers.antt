use Rattle.std.proofs.Common.{refl}
use Rattle.frame_calls.specs.Returning.{by_operator}
use Rattle.frame_calls.proofs.returning.wanted_by_operator.Goals as goal

pub returns : goal.returns
returns c = (by_operator c.args.opcode c.requires.opcode c.requires.operator c.in_ok-before.before c.in_ok-before.ensures c.a.ensures refl, refl)

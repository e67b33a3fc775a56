use Rattle.int_core.proofs.BitLemmas.{or_is}
use Rattle.machine_arms_numbers.proofs.arithmetic.bits_of_either.Goals as goal

pub returns : goal.returns
returns c = or_is c.args.m c.args.n c.ranges.m c.ranges.n

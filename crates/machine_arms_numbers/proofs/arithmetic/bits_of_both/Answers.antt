use Rattle.int_core.proofs.BitLemmas.{and_is}
use Rattle.machine_arms_numbers.proofs.arithmetic.bits_of_both.Goals as goal

pub returns : goal.returns
returns c = and_is c.args.m c.args.n c.ranges.m c.ranges.n

use Rattle.int_core.proofs.BitLemmas.{xor_is}
use Rattle.machine_arms_numbers.proofs.arithmetic.bits_of_one.Goals as goal

pub returns : goal.returns
returns c = xor_is c.args.m c.args.n c.ranges.m c.ranges.n

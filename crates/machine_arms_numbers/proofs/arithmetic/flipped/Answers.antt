use Rattle.std.proofs.Common.{rules}
use Rattle.std.proofs.lemmas.Int.{wraps}
use Rattle.machine_arms_numbers.proofs.arithmetic.flipped.Goals as goal

pub returns : goal.returns
returns c = search (rules, wraps)

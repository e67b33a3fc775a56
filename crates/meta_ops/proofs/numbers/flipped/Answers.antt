use Rattle.std.proofs.Common.{rules}
use Rattle.std.proofs.lemmas.Int.{wraps}
use Rattle.meta_ops.proofs.numbers.flipped.Goals as goal

pub returns : goal.returns
returns c = search (rules, wraps)

use Rattle.code_means.proofs.Same.{means_same}
use Rattle.code_means.proofs.law.asks_the_same.Goals as goal

pub returns : goal.returns
returns c = λ lines p. means_same lines p

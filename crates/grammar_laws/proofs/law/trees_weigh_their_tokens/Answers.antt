use Rattle.grammar_laws.proofs.WholeSizes.{weighs}
use Rattle.grammar_laws.proofs.law.trees_weigh_their_tokens.Goals as goal

pub returns : goal.returns
returns c = λ tokens tree d. weighs tokens tree d

use Rattle.grammar_laws.proofs.FormReadings.{tree_formed}
use Rattle.grammar_laws.proofs.law.trees_are_formed.Goals as goal

pub returns : goal.returns
returns c = λ tokens tree d. tree_formed tokens tree d

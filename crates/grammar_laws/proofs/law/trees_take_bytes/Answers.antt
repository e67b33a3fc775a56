use Rattle.grammar_laws.proofs.WholeSizes.{takes}
use Rattle.grammar_laws.proofs.law.trees_take_bytes.Goals as goal

pub returns : goal.returns
returns c = λ source tokens tree t d. takes source tokens tree t d

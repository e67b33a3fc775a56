use Rattle.grammar_laws.proofs.WholeSizes.{lines}
use Rattle.grammar_laws.proofs.law.trees_have_few_lines.Goals as goal

pub returns : goal.returns
returns c = λ source tokens tree t d. lines source tokens tree t d

use Rattle.code_bounds.proofs.Counts.{few_block}
use Rattle.code_bounds.proofs.law.constants_are_few.Goals as goal

pub returns : goal.returns
returns c = λ block constants. few_block block constants

use Rattle.code_bounds.proofs.Constants.{numbered}
use Rattle.code_bounds.proofs.law.constants_are_numbered.Goals as goal

pub returns : goal.returns
returns c = numbered

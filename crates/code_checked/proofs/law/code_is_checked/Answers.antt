use Rattle.code_checked.proofs.Keeping.{code_is_checked}
use Rattle.code_checked.proofs.law.code_is_checked.Goals as goal

pub returns : goal.returns
returns c = λ source body near. code_is_checked source body near

use Rattle.scripts_mean.proofs.Preludes.{prelude_alike}
use Rattle.scripts_mean.proofs.law.prelude_is_alike.Goals as goal

pub returns : goal.returns
returns c = prelude_alike

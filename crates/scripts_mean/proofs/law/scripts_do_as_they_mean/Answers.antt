use Rattle.scripts_mean.proofs.Scripts.{scripts_do, scripts_mean}
use Rattle.scripts_mean.proofs.law.scripts_do_as_they_mean.Goals as goal

pub returns-clause-does : goal.returns-clause-does
returns-clause-does c = scripts_do c.library_is_safe.ensures.loads

pub returns-clause-means : goal.returns-clause-means
returns-clause-means c = scripts_mean c.library_is_safe.ensures.loads

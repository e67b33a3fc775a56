use Rattle.mains_mean.proofs.Mains.{mains_do, mains_mean}
use Rattle.mains_mean.proofs.law.mains_do_as_they_mean.Goals as goal

pub returns-clause-does : goal.returns-clause-does
returns-clause-does c = mains_do c.library_is_safe.ensures.loads

pub returns-clause-means : goal.returns-clause-means
returns-clause-means c = mains_mean c.library_is_safe.ensures.loads

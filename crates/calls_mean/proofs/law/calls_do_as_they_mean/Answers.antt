use Rattle.calls_mean.proofs.Meant.{calls_mean, calls_mean_one}
use Rattle.calls_mean.proofs.law.calls_do_as_they_mean.Goals as goal

pub returns-clause-means : goal.returns-clause-means
returns-clause-means c = calls_mean c.the_reader_knows.ensures.libraries c.prelude_is_alike.ensures c.sessions_do_as_they_mean.ensures.means

pub returns-clause-one : goal.returns-clause-one
returns-clause-one c = calls_mean_one c.the_reader_knows.ensures.libraries c.prelude_is_alike.ensures c.sessions_do_as_they_mean.ensures.one

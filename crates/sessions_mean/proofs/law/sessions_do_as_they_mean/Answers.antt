use Rattle.sessions_mean.proofs.Meant.{sessions_mean, sessions_mean_one}
use Rattle.sessions_mean.proofs.law.sessions_do_as_they_mean.Goals as goal

pub returns-clause-means : goal.returns-clause-means
returns-clause-means c = sessions_mean (record { safe = c.loading_is_safe.ensures.safe; falls = c.loading_is_safe.ensures.falls; silent = c.loading_is_safe.ensures.silent }) c.sessions_are_one_run.ensures c.scripts_do_as_they_mean.ensures.does

pub returns-clause-one : goal.returns-clause-one
returns-clause-one c = sessions_mean_one (record { safe = c.loading_is_safe.ensures.safe; falls = c.loading_is_safe.ensures.falls; silent = c.loading_is_safe.ensures.silent }) c.sessions_are_one_run.ensures c.scripts_do_as_they_mean.ensures.means c.runs_are_one.ensures.runs

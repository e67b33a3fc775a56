use Rattle.means_runs.proofs.Runs.{scripts_run, scripts_mean}
use Rattle.means_runs.proofs.law.scripts_run_as_they_mean.Goals as goal

pub returns-clause-runs : goal.returns-clause-runs
returns-clause-runs c = scripts_run

pub returns-clause-means : goal.returns-clause-means
returns-clause-means c = scripts_mean

use Rattle.machine_runs.proofs.Runs.{run_cut, onward_run_cut}
use Rattle.machine_runs.proofs.law.cuts_do_not_show.Goals as goal

pub returns-clause-runs : goal.returns-clause-runs
returns-clause-runs c = run_cut

pub returns-clause-onward : goal.returns-clause-onward
returns-clause-onward c = onward_run_cut

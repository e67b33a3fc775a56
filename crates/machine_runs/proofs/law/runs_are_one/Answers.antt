use Rattle.machine_runs.proofs.Runs.{turn_within, run_once}
use Rattle.machine_runs.proofs.law.runs_are_one.Goals as goal

pub returns-clause-turns : goal.returns-clause-turns
returns-clause-turns c = turn_within

pub returns-clause-runs : goal.returns-clause-runs
returns-clause-runs c = run_once

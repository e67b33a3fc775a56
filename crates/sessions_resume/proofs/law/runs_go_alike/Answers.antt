use Rattle.sessions_resume.proofs.Turns.{turns_alike}
use Rattle.sessions_resume.proofs.Runs.{runs_alike, onward_alike}
use Rattle.sessions_resume.proofs.law.runs_go_alike.Goals as goal

pub returns-clause-turns : goal.returns-clause-turns
returns-clause-turns c = turns_alike

pub returns-clause-runs : goal.returns-clause-runs
returns-clause-runs c = runs_alike

pub returns-clause-onward : goal.returns-clause-onward
returns-clause-onward c = onward_alike

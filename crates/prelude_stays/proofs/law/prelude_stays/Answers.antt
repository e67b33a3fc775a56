use Rattle.prelude_stays.proofs.Runs.{opening_stays, begun_stays, steps_stay_so, runs_stay, onward_stays_so}
use Rattle.prelude_stays.proofs.law.prelude_stays.Goals as goal

pub returns-clause-opening : goal.returns-clause-opening
returns-clause-opening c = opening_stays

pub returns-clause-begun : goal.returns-clause-begun
returns-clause-begun c = begun_stays

pub returns-clause-steps : goal.returns-clause-steps
returns-clause-steps c = steps_stay_so

pub returns-clause-runs : goal.returns-clause-runs
returns-clause-runs c = runs_stay

pub returns-clause-onward : goal.returns-clause-onward
returns-clause-onward c = onward_stays_so

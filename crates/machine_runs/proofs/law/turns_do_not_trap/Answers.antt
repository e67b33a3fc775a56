use Rattle.machine_runs.proofs.Waking.{wakes_good, turn_good}
use Rattle.machine_runs.proofs.law.turns_do_not_trap.Goals as goal

pub returns-clause-wakes : goal.returns-clause-wakes
returns-clause-wakes c = wakes_good

pub returns-clause-turns : goal.returns-clause-turns
returns-clause-turns c = turn_good

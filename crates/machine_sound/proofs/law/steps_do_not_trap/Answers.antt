use Rattle.machine_sound.proofs.LuaSteps.{goes_from_sound}
use Rattle.machine_sound.proofs.Steps.{steps_good, runs_good}
use Rattle.machine_sound.proofs.law.steps_do_not_trap.Goals as goal

pub returns-clause-step : goal.returns-clause-step
returns-clause-step c = steps_good

pub returns-clause-runs : goal.returns-clause-runs
returns-clause-runs c = runs_good

pub returns-clause-from_sound : goal.returns-clause-from_sound
returns-clause-from_sound c = goes_from_sound

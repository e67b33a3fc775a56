use Rattle.step_laws.proofs.Ready.{ready_by_fuel, ready_is_sound, steps_stay_ready}
use Rattle.step_laws.proofs.Stepping.{end_stays}
use Rattle.step_laws.proofs.law.steps_stay_ready.Goals as goal

pub returns-clause-budget : goal.returns-clause-budget
returns-clause-budget c = ready_by_fuel

pub returns-clause-sound : goal.returns-clause-sound
returns-clause-sound c = ready_is_sound

pub returns-clause-steps : goal.returns-clause-steps
returns-clause-steps c = steps_stay_ready

pub returns-clause-end : goal.returns-clause-end
returns-clause-end c = end_stays

use Rattle.machine_focus.proofs.Here.{held_is_step}
use Rattle.machine_focus.proofs.law.held_frames_step.Goals as goal

pub returns : goal.returns
returns c = held_is_step

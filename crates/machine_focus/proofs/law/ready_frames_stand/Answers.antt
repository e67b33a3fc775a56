use Rattle.machine_focus.proofs.Here.{ready_frames_stand}
use Rattle.machine_focus.proofs.law.ready_frames_stand.Goals as goal

pub returns : goal.returns
returns c = ready_frames_stand

use Rattle.machine_view.proofs.Here.{ready_is_at}
use Rattle.machine_view.proofs.law.ready_frames_have_instructions.Goals as goal

pub returns : goal.returns
returns c = ready_is_at

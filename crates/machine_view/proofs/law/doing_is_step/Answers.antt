use Rattle.machine_view.proofs.Here.{doing_is_step}
use Rattle.machine_view.proofs.law.doing_is_step.Goals as goal

pub returns : goal.returns
returns c = doing_is_step

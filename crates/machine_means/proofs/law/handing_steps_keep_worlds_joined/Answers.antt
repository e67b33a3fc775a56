use Rattle.machine_means.proofs.Steps.{handing_steps}
use Rattle.machine_means.proofs.law.handing_steps_keep_worlds_joined.Goals as goal

pub returns : goal.returns
returns c = handing_steps

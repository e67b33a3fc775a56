use Rattle.machine_means.proofs.Entering.{asked_steps}
use Rattle.machine_means.proofs.law.asked_steps_keep_worlds_joined.Goals as goal

pub returns : goal.returns
returns c = asked_steps

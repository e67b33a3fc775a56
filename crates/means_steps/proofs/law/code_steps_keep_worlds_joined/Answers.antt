use Rattle.means_steps.proofs.Steps.{running_steps}
use Rattle.means_steps.proofs.law.code_steps_keep_worlds_joined.Goals as goal

pub returns : goal.returns
returns c = running_steps

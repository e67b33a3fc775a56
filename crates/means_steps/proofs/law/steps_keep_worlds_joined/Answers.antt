use Rattle.means_steps.proofs.All.{steps_lead}
use Rattle.means_steps.proofs.law.steps_keep_worlds_joined.Goals as goal

pub returns : goal.returns
returns c = steps_lead

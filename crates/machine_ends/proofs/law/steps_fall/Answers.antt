use Rattle.machine_ends.proofs.Steps.{steps_fall}
use Rattle.machine_ends.proofs.law.steps_fall.Goals as goal

pub returns : goal.returns
returns c = steps_fall

use Rattle.machine_ends.proofs.Loads.{load_falls}
use Rattle.machine_ends.proofs.Steps.{primitives_fall}
use Rattle.machine_ends.proofs.law.primitives_fall.Goals as goal

pub returns-clause-rows : goal.returns-clause-rows
returns-clause-rows c = primitives_fall

pub returns-clause-loads : goal.returns-clause-loads
returns-clause-loads c = load_falls

use Rattle.code_bounds.proofs.Body.{enough}
use Rattle.code_bounds.proofs.law.registers_are_enough.Goals as goal

pub returns : goal.returns
returns c = enough

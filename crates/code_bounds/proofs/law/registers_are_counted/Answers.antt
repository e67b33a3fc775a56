use Rattle.code_bounds.proofs.Counted.{counted}
use Rattle.code_bounds.proofs.law.registers_are_counted.Goals as goal

pub returns : goal.returns
returns c = counted

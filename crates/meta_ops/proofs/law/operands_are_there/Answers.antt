use Rattle.meta_ops.proofs.Staying.{operand-there}
use Rattle.meta_ops.proofs.law.operands_are_there.Goals as goal

pub returns : goal.returns
returns c z texts tables v e h = operand-there c.strings_are_there.ensures z texts tables v e h

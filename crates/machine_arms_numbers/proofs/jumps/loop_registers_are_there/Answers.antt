use Rattle.machine_arms_numbers.proofs.LoopRows.{loop_there}
use Rattle.machine_arms_numbers.proofs.jumps.loop_registers_are_there.Goals as goal

pub returns : goal.returns
returns c = loop_there c.requires.at c.requires.form

use Rattle.machine_ends.proofs.Ends.{steps_end, turns_end}
use Rattle.machine_ends.proofs.law.turns_of_code_end.Goals as goal

pub returns-clause-steps : goal.returns-clause-steps
returns-clause-steps c = steps_end

pub returns-clause-turns : goal.returns-clause-turns
returns-clause-turns c = turns_end

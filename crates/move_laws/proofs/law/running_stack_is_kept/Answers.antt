use Rattle.move_laws.proofs.Running.{stack_runs}
use Rattle.move_laws.proofs.law.running_stack_is_kept.Goals as goal

pub returns : goal.returns
returns c = stack_runs

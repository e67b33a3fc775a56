use Rattle.move_laws.proofs.Running.{changed_stack_is_put}
use Rattle.move_laws.proofs.law.changed_stack_is_put.Goals as goal

pub returns : goal.returns
returns c = changed_stack_is_put

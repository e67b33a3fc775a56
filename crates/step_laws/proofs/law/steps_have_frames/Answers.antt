use Rattle.step_laws.proofs.Ready.{go_has_frame, running_is_at, waiting_is_at, returned_has_stack, asks_has_stack, raised_has_stack, unwinding_has_stack, call_has_stack}
use Rattle.step_laws.proofs.law.steps_have_frames.Goals as goal

pub returns-clause-go : goal.returns-clause-go
returns-clause-go c = go_has_frame

pub returns-clause-running : goal.returns-clause-running
returns-clause-running c = running_is_at

pub returns-clause-returned : goal.returns-clause-returned
returns-clause-returned c = returned_has_stack

pub returns-clause-asks : goal.returns-clause-asks
returns-clause-asks c = asks_has_stack

pub returns-clause-raised : goal.returns-clause-raised
returns-clause-raised c = raised_has_stack

pub returns-clause-unwinding : goal.returns-clause-unwinding
returns-clause-unwinding c = unwinding_has_stack

pub returns-clause-calls : goal.returns-clause-calls
returns-clause-calls c = call_has_stack

pub returns-clause-waiting : goal.returns-clause-waiting
returns-clause-waiting c = waiting_is_at

use Rattle.step_laws.proofs.Stepping.{results_are_step, error_is_step, instruction_is_step, answer_is_step, returned_is_step, unwinding_is_step, raised_is_step, asked_is_step, primitive_is_step}
use Rattle.step_laws.proofs.law.rows_are_steps.Goals as goal

pub returns-clause-instruction : goal.returns-clause-instruction
returns-clause-instruction c = instruction_is_step

pub returns-clause-answer : goal.returns-clause-answer
returns-clause-answer c = answer_is_step

pub returns-clause-returned : goal.returns-clause-returned
returns-clause-returned c = returned_is_step

pub returns-clause-unwinding : goal.returns-clause-unwinding
returns-clause-unwinding c = unwinding_is_step

pub returns-clause-raised : goal.returns-clause-raised
returns-clause-raised c = raised_is_step

pub returns-clause-asked : goal.returns-clause-asked
returns-clause-asked c = asked_is_step

pub returns-clause-primitive : goal.returns-clause-primitive
returns-clause-primitive c = primitive_is_step

pub returns-clause-results : goal.returns-clause-results
returns-clause-results c = results_are_step

pub returns-clause-error : goal.returns-clause-error
returns-clause-error c = error_is_step

use Rattle.step_laws.proofs.Joins.{join_is_sound}
use Rattle.step_laws.proofs.Stepping.{results_are_safe, error_is_safe, instruction_is_safe, answer_is_safe, returned_is_safe, unwinding_is_safe, raised_is_safe, asked_is_safe, primitive_is_safe}
use Rattle.step_laws.proofs.law.rows_of_steps_are_safe.Goals as goal

pub returns-clause-instruction : goal.returns-clause-instruction
returns-clause-instruction c = instruction_is_safe

pub returns-clause-answer : goal.returns-clause-answer
returns-clause-answer c = answer_is_safe

pub returns-clause-returned : goal.returns-clause-returned
returns-clause-returned c = returned_is_safe

pub returns-clause-unwinding : goal.returns-clause-unwinding
returns-clause-unwinding c = unwinding_is_safe

pub returns-clause-raised : goal.returns-clause-raised
returns-clause-raised c = raised_is_safe

pub returns-clause-asked : goal.returns-clause-asked
returns-clause-asked c = asked_is_safe

pub returns-clause-primitive : goal.returns-clause-primitive
returns-clause-primitive c = primitive_is_safe

pub returns-clause-joins : goal.returns-clause-joins
returns-clause-joins c = join_is_sound

pub returns-clause-results : goal.returns-clause-results
returns-clause-results c = results_are_safe

pub returns-clause-error : goal.returns-clause-error
returns-clause-error c = error_is_safe

use Rattle.step_laws.proofs.Small.{forms_are_small, forms_are_within}
use Rattle.step_laws.proofs.Stepping.{answer_has_form}
use Rattle.step_laws.proofs.law.forms_are_known.Goals as goal

pub returns-clause-answer : goal.returns-clause-answer
returns-clause-answer c = answer_has_form

pub returns-clause-small : goal.returns-clause-small
returns-clause-small c = forms_are_small

pub returns-clause-within : goal.returns-clause-within
returns-clause-within c = forms_are_within

use Rattle.instruction_forms.proofs.Waiting.{rest_has_form}
use Rattle.instruction_forms.proofs.law.rests_have_forms.Goals as goal

pub returns : goal.returns
returns c op i form e wait p pc h = rest_has_form wait op i form p pc e h

use Rattle.grammar_laws.proofs.PlacedForms.{placed_formed}
use Rattle.grammar_laws.proofs.law.places_keep_forms.Goals as goal

pub returns : goal.returns
returns c = λ tree h. placed_formed tree h

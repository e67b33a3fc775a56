use Rattle.grammar_laws.proofs.WholeSizes.{weighs_alike}
use Rattle.grammar_laws.proofs.law.places_weigh_nothing.Goals as goal

pub returns : goal.returns
returns c = weighs_alike

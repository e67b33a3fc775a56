use Rattle.runs_alike.proofs.Openings.{openings_alike}
use Rattle.runs_alike.proofs.law.openings_are_alike.Goals as goal

pub returns : goal.returns
returns c = λ xs ys like. openings_alike xs ys like

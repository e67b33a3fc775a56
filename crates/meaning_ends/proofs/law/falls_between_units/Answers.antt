use Rattle.meaning_ends.proofs.Measure.{measure}
use Rattle.meaning_ends.proofs.Steps.{step_falls}
use Rattle.meaning_ends.proofs.law.falls_between_units.Goals as goal

pub returns : goal.returns
returns c = (measure, step_falls)

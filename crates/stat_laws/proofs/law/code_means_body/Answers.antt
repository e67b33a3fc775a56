use Rattle.stat_laws.proofs.Whole.{means}
use Rattle.stat_laws.proofs.law.code_means_body.Goals as goal

pub returns : goal.returns
returns c = λ source body fits. means source body fits

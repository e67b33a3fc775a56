use Rattle.source_laws.proofs.Fitting.{body_fits}
use Rattle.source_laws.proofs.law.bodies_fit.Goals as goal

pub returns : goal.returns
returns c = λ source body keeps finds formed counted light few. body_fits source body keeps finds formed counted light few

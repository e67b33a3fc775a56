use Rattle.source_laws.proofs.Nearing.{near_body}
use Rattle.source_laws.proofs.law.bodies_are_near.Goals as goal

pub returns : goal.returns
returns c = λ source body k n f i s w. near_body source body k n f i s w

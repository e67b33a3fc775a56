use Rattle.std.proofs.Common.{refl}
use Rattle.scope_laws.proofs.Main.{names_fit}
use Rattle.scope_laws.proofs.law.resolved_names_fit.Goals as goal

pub returns : goal.returns
returns c = λ source e. (names_fit source e, refl)

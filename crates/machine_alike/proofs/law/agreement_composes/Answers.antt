use Rattle.machine_alike.proofs.Compose.{agreement_composes}
use Rattle.machine_alike.proofs.law.agreement_composes.Goals as goal

pub returns : goal.returns
returns c = agreement_composes

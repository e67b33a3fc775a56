use Rattle.source_runs.proofs.Preludes.{preludes_alike}
use Rattle.source_runs.proofs.law.compiled_preludes_are_alike.Goals as goal

pub returns : goal.returns
returns c = λ prelude fits. preludes_alike prelude fits

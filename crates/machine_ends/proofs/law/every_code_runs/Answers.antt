use Rattle.machine_ends.proofs.Ends.{code_runs}
use Rattle.machine_ends.proofs.law.every_code_runs.Goals as goal

pub returns : goal.returns
returns c build least falls never primitives safe = code_runs build least falls primitives safe never

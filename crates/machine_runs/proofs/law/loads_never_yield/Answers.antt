use Rattle.machine_runs.proofs.Yields.{loads_never_yield}
use Rattle.machine_runs.proofs.law.loads_never_yield.Goals as goal

pub returns : goal.returns
returns c = loads_never_yield

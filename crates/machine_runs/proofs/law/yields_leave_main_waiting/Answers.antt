use Rattle.machine_runs.proofs.MainWaits.{turn_yields}
use Rattle.machine_runs.proofs.law.yields_leave_main_waiting.Goals as goal

pub returns : goal.returns
returns c = turn_yields

use Rattle.machine_call_rows.proofs.Keeping.{calls_keep_registers}
use Rattle.machine_call_rows.proofs.law.calls_keep_registers.Goals as goal

pub returns : goal.returns
returns c = calls_keep_registers

use Rattle.machine_means.proofs.Beginning.{coroutines_begin}
use Rattle.machine_means.proofs.law.first_calls_keep_worlds_joined.Goals as goal

pub returns : goal.returns
returns c = coroutines_begin

use Rattle.machine_means.proofs.Writing.{writes_joined}
use Rattle.machine_means.proofs.law.writes_keep_worlds_joined.Goals as goal

pub returns : goal.returns
returns c = writes_joined

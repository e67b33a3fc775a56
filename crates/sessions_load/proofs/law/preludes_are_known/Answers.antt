use Rattle.sessions_load.proofs.Known.{preludes_are_known}
use Rattle.sessions_load.proofs.law.preludes_are_known.Goals as goal

pub returns : goal.returns
returns c = preludes_are_known c.names_are_read.ensures

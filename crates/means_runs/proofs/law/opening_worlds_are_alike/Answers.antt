use Rattle.means_runs.proofs.Opened.{opens_alike}
use Rattle.means_runs.proofs.law.opening_worlds_are_alike.Goals as goal

pub returns : goal.returns
returns c = opens_alike

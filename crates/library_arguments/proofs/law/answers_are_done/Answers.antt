use Rattle.library_arguments.proofs.Limits.{within_done}
use Rattle.library_arguments.proofs.law.answers_are_done.Goals as goal

pub returns : goal.returns
returns c = within_done

use Rattle.library_arguments.proofs.Limits.{within_refused}
use Rattle.library_arguments.proofs.law.refusals_are_done.Goals as goal

pub returns : goal.returns
returns c = within_refused

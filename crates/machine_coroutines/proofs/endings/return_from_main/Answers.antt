use Rattle.std.proofs.Common.{[]}
use Rattle.machine_core.specs.Moves.{main_returned, stop}
use Rattle.move_laws.proofs.Rows.{first, ended}
use Rattle.machine_coroutines.proofs.endings.return_from_main.Goals as goal

pub returns-clause-leads : goal.returns-clause-leads
returns-clause-leads c = first (λ _ _. stop main_returned) (c.end_coroutine.ensures.makes []) ended

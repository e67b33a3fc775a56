use Rattle.machine_alike.proofs.Rows.{moves_keep, rows_keep}
use Rattle.machine_alike.proofs.Keeps.{steps_keep}
use Rattle.machine_alike.proofs.law.worlds_run_alike.Goals as goal

pub returns-clause-moves : goal.returns-clause-moves
returns-clause-moves c = moves_keep

pub returns-clause-rows : goal.returns-clause-rows
returns-clause-rows c = rows_keep

pub returns-clause-steps : goal.returns-clause-steps
returns-clause-steps c = steps_keep

use Rattle.machine_sound.proofs.All.{moves_good, all_rows_good}
use Rattle.machine_sound.proofs.law.rows_do_not_trap.Goals as goal

pub returns-clause-moves : goal.returns-clause-moves
returns-clause-moves c = moves_good

pub returns-clause-rows : goal.returns-clause-rows
returns-clause-rows c = all_rows_good

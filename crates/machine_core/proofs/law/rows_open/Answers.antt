use Rattle.machine_core.proofs.RowsOpen.{row_opens, rest_none}
use Rattle.machine_core.proofs.law.rows_open.Goals as goal

pub returns-clause-rows : goal.returns-clause-rows
returns-clause-rows c = row_opens

pub returns-clause-rests : goal.returns-clause-rests
returns-clause-rests c = rest_none

use Rattle.machine_core.proofs.RowsFit.{row_fits, rest_fits}
use Rattle.machine_core.proofs.law.rows_fit.Goals as goal

pub returns-clause-rows : goal.returns-clause-rows
returns-clause-rows c = row_fits

pub returns-clause-rests : goal.returns-clause-rests
returns-clause-rests c = rest_fits

use Rattle.tables_stay.proofs.Rows.{library_keeps, loads_keep}
use Rattle.tables_stay.proofs.Runs.{rows_keep, steps_keep, turns_keep, runs_keep, onward_keeps}
use Rattle.tables_stay.proofs.Opening.{opening_has_tables, begun_keeps, scripts_have_tables}
use Rattle.tables_stay.proofs.law.tables_stay.Goals as goal

pub returns-clause-rows : goal.returns-clause-rows
returns-clause-rows c = rows_keep

pub returns-clause-library : goal.returns-clause-library
returns-clause-library c = library_keeps

pub returns-clause-loads : goal.returns-clause-loads
returns-clause-loads c = loads_keep

pub returns-clause-steps : goal.returns-clause-steps
returns-clause-steps c = steps_keep

pub returns-clause-turns : goal.returns-clause-turns
returns-clause-turns c = turns_keep

pub returns-clause-runs : goal.returns-clause-runs
returns-clause-runs c = runs_keep

pub returns-clause-onward : goal.returns-clause-onward
returns-clause-onward c = onward_keeps

pub returns-clause-opening : goal.returns-clause-opening
returns-clause-opening c = opening_has_tables

pub returns-clause-begun : goal.returns-clause-begun
returns-clause-begun c = begun_keeps

pub returns-clause-scripts : goal.returns-clause-scripts
returns-clause-scripts c = scripts_have_tables

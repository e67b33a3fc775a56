use Rattle.tables_load.proofs.Saved.{run_is_saved, onward_has_tables, onward_is_saved}
use Rattle.tables_load.proofs.law.sessions_are_saved.Goals as goal

pub returns-clause-run : goal.returns-clause-run
returns-clause-run c = run_is_saved c.tables_stay.ensures.library c.tables_stay.ensures.begun c.tables_stay.ensures.runs

pub returns-clause-tables : goal.returns-clause-tables
returns-clause-tables c = onward_has_tables c.loaded_sessions_have_tables.ensures.sessions c.tables_stay.ensures.library c.tables_stay.ensures.onward

pub returns-clause-onward : goal.returns-clause-onward
returns-clause-onward c = onward_is_saved c.loaded_sessions_have_tables.ensures.sessions c.tables_stay.ensures.library c.tables_stay.ensures.onward

use Rattle.tables_load.proofs.Loaded.{accepted_has_tables, sessions_have_tables}
use Rattle.tables_load.proofs.law.loaded_sessions_have_tables.Goals as goal

pub returns-clause-accepted : goal.returns-clause-accepted
returns-clause-accepted c = accepted_has_tables

pub returns-clause-sessions : goal.returns-clause-sessions
returns-clause-sessions c = sessions_have_tables

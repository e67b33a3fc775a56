use Rattle.sessions_load.proofs.Staying.{run_keeps_prelude, onward_keeps_prelude}
use Rattle.sessions_load.proofs.law.sessions_keep_the_prelude.Goals as goal

pub returns-clause-run : goal.returns-clause-run
returns-clause-run c = run_keeps_prelude c.prelude_stays.ensures.opening c.prelude_stays.ensures.begun c.prelude_stays.ensures.runs

pub returns-clause-onward : goal.returns-clause-onward
returns-clause-onward c = onward_keeps_prelude c.sessions_stand.ensures.accepted c.the_reader_knows.ensures.libraries c.preludes_are_known.ensures c.loaded_sessions_stay.ensures c.prelude_stays.ensures.onward

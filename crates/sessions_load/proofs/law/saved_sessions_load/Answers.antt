use Rattle.sessions_load.proofs.Saved.{run_is_loadable, onward_is_loadable, loaded_goes_on}
use Rattle.sessions_load.proofs.law.saved_sessions_load.Goals as goal

pub returns-clause-run : goal.returns-clause-run
returns-clause-run c = run_is_loadable c.sessions_stand.ensures.accepted c.sessions_can_resume.ensures c.sessions_go_on.ensures.agrees c.the_reader_knows.ensures.libraries c.preludes_are_known.ensures

pub returns-clause-onward : goal.returns-clause-onward
returns-clause-onward c = onward_is_loadable c.sessions_stand.ensures.accepted c.sessions_can_resume.ensures c.sessions_go_on.ensures.agrees c.the_reader_knows.ensures.libraries c.preludes_are_known.ensures

pub returns-clause-goes_on : goal.returns-clause-goes_on
returns-clause-goes_on c = loaded_goes_on

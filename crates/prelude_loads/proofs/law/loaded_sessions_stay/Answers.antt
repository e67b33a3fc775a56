use Rattle.prelude_loads.proofs.Loaded.{loaded_stays}
use Rattle.prelude_loads.proofs.law.loaded_sessions_stay.Goals as goal

pub returns : goal.returns
returns c = loaded_stays c.sessions_can_resume.ensures c.sessions_go_on.ensures.agrees c.prelude_stays.ensures.opening c.worlds_have_the_prelude.ensures.loaded

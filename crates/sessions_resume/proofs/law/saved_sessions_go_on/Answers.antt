use Rattle.sessions_resume.proofs.Runs.{saved_go_on}
use Rattle.sessions_resume.proofs.law.saved_sessions_go_on.Goals as goal

pub returns : goal.returns
returns c = saved_go_on c.sessions_go_on.ensures.agrees

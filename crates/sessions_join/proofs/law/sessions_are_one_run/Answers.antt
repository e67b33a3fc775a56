use Rattle.sessions_join.proofs.Joined.{sessions_are_one_run}
use Rattle.sessions_join.proofs.law.sessions_are_one_run.Goals as goal

pub returns : goal.returns
returns c = sessions_are_one_run c.images_are_read_back.ensures c.sessions_stand.ensures.stands c.sessions_can_resume.ensures c.saved_sessions_go_on.ensures

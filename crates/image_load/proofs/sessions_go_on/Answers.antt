use Rattle.image_load.proofs.Session.{session_agrees, session_goes_on, session_saved_again}
use Rattle.image_load.proofs.sessions_go_on.Goals as goal

pub returns-clause-agrees : goal.returns-clause-agrees
returns-clause-agrees c = session_agrees

pub returns-clause-goes_on : goal.returns-clause-goes_on
returns-clause-goes_on c = session_goes_on

pub returns-clause-again : goal.returns-clause-again
returns-clause-again c = session_saved_again

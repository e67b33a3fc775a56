use Rattle.session_images.proofs.Resuming.{saved_can_resume}
use Rattle.session_images.proofs.law.sessions_can_resume.Goals as goal

pub returns : goal.returns
returns c = saved_can_resume c.saved_images_can_be_loaded.ensures

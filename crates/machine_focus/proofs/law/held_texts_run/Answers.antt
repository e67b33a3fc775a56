use Rattle.machine_focus.proofs.Local.{local_is}
use Rattle.machine_focus.proofs.law.held_texts_run.Goals as goal

pub returns : goal.returns
returns c = local_is

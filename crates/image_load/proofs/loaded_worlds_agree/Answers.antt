use Rattle.image_load.proofs.Copies.{loaded_agrees}
use Rattle.image_load.proofs.loaded_worlds_agree.Goals as goal

pub returns : goal.returns
returns c = loaded_agrees

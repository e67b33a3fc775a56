use Rattle.image_load.proofs.Two.{both_loaded_agree}
use Rattle.image_load.proofs.both_loaded_agree.Goals as goal

pub returns : goal.returns
returns c = both_loaded_agree

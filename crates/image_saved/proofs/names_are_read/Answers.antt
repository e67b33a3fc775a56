use Rattle.image_saved.proofs.Names.{names_are_read}
use Rattle.image_saved.proofs.names_are_read.Goals as goal

pub returns : goal.returns
returns c = names_are_read

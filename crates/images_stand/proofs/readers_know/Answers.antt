use Rattle.images_stand.proofs.Reading.{readers_know}
use Rattle.images_stand.proofs.readers_know.Goals as goal

pub returns : goal.returns
returns c = readers_know

use Rattle.image_same.proofs.Alike.{images_same}
use Rattle.image_same.proofs.same_images.Goals as goal

pub returns : goal.returns
returns c = images_same

use Rattle.image_bytes.proofs.ImageBack.{images_read_back}
use Rattle.image_bytes.proofs.images_are_read_back.Goals as goal

pub returns : goal.returns
returns c = images_read_back

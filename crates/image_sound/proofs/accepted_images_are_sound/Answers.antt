use Rattle.image_sound.proofs.Deciding.{accepted_is_sound}
use Rattle.image_sound.proofs.accepted_images_are_sound.Goals as goal

pub returns : goal.returns
returns c = accepted_is_sound

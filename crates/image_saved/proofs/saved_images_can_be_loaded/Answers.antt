use Rattle.image_saved.proofs.Saving.{saved_can_load}
use Rattle.image_saved.proofs.saved_images_can_be_loaded.Goals as goal

pub returns : goal.returns
returns c = saved_can_load

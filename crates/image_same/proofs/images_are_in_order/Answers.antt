use Rattle.image_same.proofs.InOrder.{images_in_order}
use Rattle.image_same.proofs.images_are_in_order.Goals as goal

pub returns : goal.returns
returns c = images_in_order

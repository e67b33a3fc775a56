use Rattle.images_stand.proofs.Stand.{written_images_stand, written_images_accepted}
use Rattle.images_stand.proofs.written_images_stand.Goals as goal

pub returns-clause-stands : goal.returns-clause-stands
returns-clause-stands c = written_images_stand c.images_are_in_order.ensures

pub returns-clause-accepted : goal.returns-clause-accepted
returns-clause-accepted c = written_images_accepted c.images_are_in_order.ensures c.images_are_read_back.ensures

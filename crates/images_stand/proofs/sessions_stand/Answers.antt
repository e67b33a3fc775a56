use Rattle.images_stand.proofs.Session.{sessions_stand, sessions_accepted}
use Rattle.images_stand.proofs.sessions_stand.Goals as goal

pub returns-clause-stands : goal.returns-clause-stands
returns-clause-stands c = sessions_stand c.images_are_in_order.ensures

pub returns-clause-accepted : goal.returns-clause-accepted
returns-clause-accepted c = sessions_accepted c.images_are_in_order.ensures c.images_are_read_back.ensures

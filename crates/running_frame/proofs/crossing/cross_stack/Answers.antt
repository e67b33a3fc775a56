use Rattle.std.proofs.Common.{refl}
use Rattle.running_frame.proofs.crossing.cross_stack.Goals as goal

pub cross_all-requires : goal.cross_all-requires
cross_all-requires g c = (c.requires.0, (c.requires.1.0, (record { first = refl; second = refl; third = refl }, c.requires.1.1)))

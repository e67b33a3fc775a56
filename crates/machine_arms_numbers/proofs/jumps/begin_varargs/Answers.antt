use Rattle.std.proofs.Common.{refl}
use Rattle.machine_view.proofs.Places.{next_there}
use Rattle.machine_arms_numbers.proofs.LoopRows.{begins_varargs}
use Rattle.machine_arms_numbers.proofs.jumps.begin_varargs.Goals as goal

pub behind-requires : goal.behind-requires
behind-requires c = next_there c.requires refl

pub returns : goal.returns
returns c = begins_varargs c.requires c.behind.ensures

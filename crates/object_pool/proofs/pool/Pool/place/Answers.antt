use Rattle.std.proofs.Common.{sym}
use Rattle.object_pool.proofs.SegmentLemmas.{length-objects_in}
use Rattle.object_pool.proofs.pool.Pool.place.Goals as goal

pub returns-clause-place : goal.returns-clause-place
returns-clause-place g c = rw (← c.self.view_is) (sym (length-objects_in c.self.inside.segments.items c.self.inside.len c.self.invariant.filled))

use Rattle.std.proofs.Common.{sym}
use Rattle.object_pool.proofs.SegmentLemmas.{length-objects_in}
use Rattle.object_pool.proofs.pool.Pool.mark.Goals as goal

pub returns : goal.returns
returns g c = rw (← c.self.view_is) (sym (length-objects_in c.self.inside.segments.items c.self.inside.len c.self.invariant.filled))

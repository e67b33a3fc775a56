use Rattle.std.proofs.Common.{◌≤◌, arith}
use Rattle.object_pool.proofs.SegmentLemmas.{length-objects_in}
use Rattle.object_pool.proofs.pool.Pool.release_to.Goals as goal

pub cut_to-requires-clause-within : goal.cut_to-requires-clause-within
cut_to-requires-clause-within g c =
    omega (arith, rw (← c.self.view_is) at c.requires, length-objects_in c.self.inside.segments.items c.self.inside.len c.self.invariant.filled)

pub invariant_of-self : goal.invariant_of-self
invariant_of-self g c =
    let size = length-objects_in c.self.inside.segments.items c.self.inside.len c.self.invariant.filled in
    let within : c.args.mark ≤ c.self.inside.len = omega (arith, rw (← c.self.view_is) at c.requires, size) in
    record {
      filled = c.cut_to.ensures.filled;
      within = omega (arith, within, c.self.invariant.within);
      there = rw c.cut_to.ensures.same c.self.invariant.there;
    }

pub returns : goal.returns
returns g c =
    let size = length-objects_in c.self.inside.segments.items c.self.inside.len c.self.invariant.filled in
    let within : c.args.mark ≤ c.self.inside.len = omega (arith, rw (← c.self.view_is) at c.requires, size) in
    rw (← c.self.view_is)
    record {
      objects = c.cut_to.ensures.objects;
      spare = omega (arith, size, within, c.self.invariant.within);
    }

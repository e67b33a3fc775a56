use Rattle.std.proofs.Common.{◌≡◌, ◌≤◌, arith, rules, [], ◌++◌, ◌∷◌}
use Rattle.object_pool.proofs.SegmentLemmas.{filled-added}
use Rattle.object_pool.proofs.segments.add_segment.Goals as goal

pub returns-clause-filled : goal.returns-clause-filled
returns-clause-filled g c = λ n is.
    let added : c.push_reserved.new.self.items ≡ c.args.segments.now.items ++ c.in_ok-with_capacity.field-0 ∷ [] = search rules in
    let room : 512 ≤ c.in_ok-with_capacity.field-0.cap = omega (arith, c.in_ok-with_capacity.ensures.capacity) in
    rw added (filled-added c.args.segments.now.items n c.in_ok-with_capacity.field-0 is c.in_ok-with_capacity.ensures.items room)

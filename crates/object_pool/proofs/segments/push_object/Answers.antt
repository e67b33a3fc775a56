use Rattle.std.proofs.Common.{◌≡◌, ◌+◌, ◌∷◌, [], ◌/◌, ◌<◌, length, ◌∙◌, ap, arith, length-append}
use Rattle.object_pool.proofs.SegmentLemmas.{ended-length, filled-ended, objects-pushed, segment-room}
use Rattle.object_pool.proofs.segments.push_object.Goals as goal

pub push_reserved-requires : goal.push_reserved-requires
push_reserved-requires g c =
    let ss = c.args.segments.now.items in
    let n = c.args.len in
    let segment = c.index_mut-segment.result.now in
    let there : n / 512 < length ss = omega (arith, c.requires.room) in
    let size = ended-length ss n (n / 512) segment c.requires.filled there c.index_mut-segment.ensures.value (omega arith) (omega arith) in
    omega (arith, segment.ok.0, size, segment-room ss n (n / 512) segment c.requires.filled there c.index_mut-segment.ensures.value)

pub returns-clause-objects : goal.returns-clause-objects
returns-clause-objects g c =
    let segment = c.index_mut-segment.result.now in
    let there : c.args.len / 512 < length c.args.segments.now.items = omega (arith, c.requires.room) in
    objects-pushed c.args.segments.now.items c.args.len (c.args.len / 512) segment c.push_reserved.new.self c.args.value c.requires.filled there c.index_mut-segment.ensures.value (omega arith) (omega arith) c.push_reserved.ensures.items

pub returns-clause-filled : goal.returns-clause-filled
returns-clause-filled g c =
    let ss = c.args.segments.now.items in
    let n = c.args.len in
    let segment = c.index_mut-segment.result.now in
    let there : n / 512 < length ss = omega (arith, c.requires.room) in
    let size = ended-length ss n (n / 512) segment c.requires.filled there c.index_mut-segment.ensures.value (omega arith) (omega arith) in
    let more : length c.push_reserved.new.self.items ≡ length segment.items + 1 = ap length c.push_reserved.ensures.items ∙ length-append segment.items (c.args.value ∷ []) in
    filled-ended ss n (n + 1) (n / 512) segment c.push_reserved.new.self c.requires.filled there (omega arith) (omega arith) (omega arith) (omega arith) (omega (arith, more, size))
    (omega (arith, c.push_reserved.ensures.capacity, segment-room ss n (n / 512) segment c.requires.filled there c.index_mut-segment.ensures.value))

use Rattle.std.proofs.Common.{◌≡◌, ◌-◌, ◌*◌, ◌/◌, ◌<◌, ◌≤◌, length, take, refl, sym, ◌∙◌, ap, arith}
use Rattle.std.proofs.lemmas.List.{length-set, length-take, take_all, take-take}
use Rattle.object_pool.specs.Segments.{objects_in}
use Rattle.object_pool.proofs.SegmentLemmas.{ended-length, filled-ended, filled-fit, length-objects_in, objects-cut, segment-room}
use Rattle.object_pool.proofs.segments.cut_to.Goals as goal

pub loop-left-init : goal.loop-left-init
loop-left-init g c =
    let ss = c.args.segments.now.items in
    let whole : length (objects_in ss) ≤ c.args.len = omega (arith, length-objects_in ss c.args.len c.requires.filled) in
    (c.requires.filled, sym (take_all c.args.len (objects_in ss) whole), refl, c.requires.within, omega arith)

pub index_mut-segment-requires : goal.index_mut-segment-requires
index_mut-segment-requires g c =
    omega (arith, c.loop-left.segments.ok.0, c.loop-left-test.true, filled-fit c.loop-left.segments.items c.loop-left.left c.loop-left.invariant.0)

pub loop-left-preserved : goal.loop-left-preserved
loop-left-preserved g c =
    let ss = c.loop-left.segments.items in
    let n = c.loop-left.left in
    let i = (n - 1) / 512 in
    let m = c.max-keep.result in
    let segment = c.index_mut-segment.result.now in
    let is = c.loop-left.invariant.0 in
    let there : i < length ss = omega (arith, c.loop-left-test.true, filled-fit ss n is) in
    let low : i * 512 ≤ m = omega (arith, c.max-keep.ensures) in
    let le : m ≤ n = omega (arith, c.max-keep.ensures, c.loop-left-test.true) in
    let held = c.index_mut-segment.ensures.value in
    let size = ended-length ss n i segment is there held (omega arith) (omega arith) in
    let left : length c.truncate.new.self.items ≡ m - i * 512 =
    omega (arith, ap length c.truncate.ensures.items ∙ length-take (m - i * 512) segment.items, size) in (
      filled-ended ss n m i segment c.truncate.new.self is there (omega arith) (omega arith) low (omega arith) left
          (omega (arith, c.truncate.ensures.capacity, segment-room ss n i segment is there held)),
      objects-cut ss n m i segment c.truncate.new.self is there held low le (omega arith) c.truncate.ensures.items
          ∙ ap (take m) c.loop-left.invariant.1
          ∙ take-take m n (objects_in c.args.segments.now.items) le,
      length-set ss i c.truncate.new.self ∙ c.loop-left.invariant.2,
      omega (arith, c.max-keep.ensures),
      omega (arith, le, c.loop-left.invariant.4),
    )

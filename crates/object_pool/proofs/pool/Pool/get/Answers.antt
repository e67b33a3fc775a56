use Rattle.std.proofs.Common.{◌/◌, ◌%◌, ◌<◌, length, sym, ◌∙◌, arith}
use Rattle.std.proofs.lemmas.Option.{slice_get_read}
use Rattle.object_pool.proofs.SegmentLemmas.{length-objects_in, object-at, place-within, segment-there}
use Rattle.object_pool.proofs.pool.Pool.get.Goals as goal

pub index-requires : goal.index-requires
index-requires g c =
    let below : c.args.at < c.self.inside.len = omega (arith, rw (← c.self.view_is) at c.requires, length-objects_in c.self.inside.segments.items c.self.inside.len c.self.invariant.filled) in
    omega (arith, c.self.inside.segments.ok.0, segment-there c.self.inside.segments.items c.self.inside.len c.args.at c.self.invariant.filled below)

pub index-requires-2 : goal.index-requires-2
index-requires-2 g c =
    let n = c.self.inside.len in
    let segments = c.self.inside.segments in
    let below : c.args.at < n = omega (arith, rw (← c.self.view_is) at c.requires, length-objects_in segments.items n c.self.invariant.filled) in
    let there : c.args.at / 512 < length segments.items = segment-there segments.items n c.args.at c.self.invariant.filled below in
    omega (arith, c.index.result.now.ok.0, place-within segments.items n (c.args.at / 512) (c.args.at % 512) c.index.result.now c.self.invariant.filled there c.index.ensures (omega arith) (omega arith))

pub returns : goal.returns
returns g c =
    let n = c.self.inside.len in
    let segments = c.self.inside.segments in
    let size = length-objects_in segments.items n c.self.invariant.filled in
    let below : c.args.at < n = omega (arith, rw (← c.self.view_is) at c.requires, size) in
    let there : c.args.at / 512 < length segments.items = segment-there segments.items n c.args.at c.self.invariant.filled below in
    rw (← c.self.view_is)
    (slice_get_read _ n c.args.at c.index-2.result.now (sym size) below
    (c.index-2.ensures ∙ sym (object-at segments.items n (c.args.at / 512) (c.args.at % 512) c.args.at c.index.result.now c.index-2.result.now c.self.invariant.filled there c.index.ensures (omega arith) below (omega arith))))

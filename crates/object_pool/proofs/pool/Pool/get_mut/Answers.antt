use Rattle.std.proofs.Common.{◌-◌, ◌/◌, ◌%◌, ◌<◌, length, refl, sym, ◌∙◌, ap, arith}
use Rattle.std.proofs.lemmas.List.{length-set}
use Rattle.std.proofs.lemmas.Option.{slice_get_read}
use Rattle.object_pool.proofs.SegmentLemmas.{filled-written, length-objects_in, object-at, objects-written, place-within, segment-there}
use Rattle.object_pool.proofs.pool.Pool.get_mut.Goals as goal

pub index_mut-segment-requires : goal.index_mut-segment-requires
index_mut-segment-requires g c =
    let below : c.args.at < c.self.inside.len = omega (arith, rw (← c.self.view_is) at c.requires, length-objects_in c.self.inside.segments.items c.self.inside.len c.self.invariant.filled) in
    omega (arith, c.self.inside.segments.ok.0, segment-there c.self.inside.segments.items c.self.inside.len c.args.at c.self.invariant.filled below)

pub index_mut-requires : goal.index_mut-requires
index_mut-requires g c =
    let n = c.self.inside.len in
    let segments = c.self.inside.segments in
    let segment = c.index_mut-segment.result.now in
    let below : c.args.at < n = omega (arith, rw (← c.self.view_is) at c.requires, length-objects_in segments.items n c.self.invariant.filled) in
    let there : c.args.at / 512 < length segments.items = segment-there segments.items n c.args.at c.self.invariant.filled below in
    omega (arith, segment.ok.0, place-within segments.items n (c.args.at / 512) (c.args.at % 512) segment c.self.invariant.filled there c.index_mut-segment.ensures.value (omega arith) (omega arith))

pub invariant_of-self-lent : goal.invariant_of-self-lent
invariant_of-self-lent g c = λ w.
    let segments = c.self.inside.segments in
    let segment = c.index_mut-segment.result.now in
    record {
      filled = filled-written segments.items c.self.inside.len (c.args.at / 512) segment _ c.self.invariant.filled c.index_mut-segment.ensures.value (length-set segment.items (c.args.at % 512) w) (omega arith);
      within = c.self.invariant.within;
      there = rw (length-set segments.items (c.args.at / 512)) c.self.invariant.there;
    }

pub returns : goal.returns
returns g c =
    let n = c.self.inside.len in
    let segments = c.self.inside.segments in
    let segment = c.index_mut-segment.result.now in
    let size = length-objects_in segments.items n c.self.invariant.filled in
    let below : c.args.at < n = omega (arith, rw (← c.self.view_is) at c.requires, size) in
    let there : c.args.at / 512 < length segments.items = segment-there segments.items n c.args.at c.self.invariant.filled below in
    rw (← c.self.view_is) (
      (
        refl,
        λ w. ap (λ objects. record { objects = objects; spare = c.self.inside.places - n })
            (objects-written segments.items n (c.args.at / 512) (c.args.at % 512) c.args.at segment _ w c.self.invariant.filled there c.index_mut-segment.ensures.value (omega arith) below (omega arith) refl),
      ),
      record {
        writes_back = tt;
        value = slice_get_read _ n c.args.at c.index_mut.result.now (sym size) below
            (c.index_mut.ensures.value ∙ sym (object-at segments.items n (c.args.at / 512) (c.args.at % 512) c.args.at segment c.index_mut.result.now c.self.invariant.filled there c.index_mut-segment.ensures.value (omega arith) below (omega arith)));
      },
    )

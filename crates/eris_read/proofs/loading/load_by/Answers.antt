use Rattle.std.proofs.Common.{refl}
use Rattle.eris_read.proofs.Composed.{loads_by, now_in_order}
use Rattle.eris_read.proofs.loading.load_by.Goals as goal

pub returns-clause-loads : goal.returns-clause-loads
returns-clause-loads c =
    loads_by c.args.world.now c.add_parts.new.world c.place_all.new.world c.args.places.now c.args.known.now _ c.args.image c.deref-2.result.now c.in_ok-parts.parts.items c.deref-3.result.now c.in_ok-values.values.items
    c.add_parts.ensures.added c.in_ok-parts.ensures.parts c.deref-2.ensures.value c.in_ok-values.ensures c.deref-3.ensures.value c.in_ok-place_all.ensures.placed refl refl refl

pub returns-clause-order : goal.returns-clause-order
returns-clause-order c =
    now_in_order c.args.world.now c.add_parts.new.world c.place_all.new.world c.add_parts.ensures.added c.place_all.ensures.adds c.requires c.in_ok-place_all.ensures.listed

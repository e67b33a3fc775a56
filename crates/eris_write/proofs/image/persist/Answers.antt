use Rattle.std.proofs.Common.{subst}
use Rattle.machine_sound.specs.Sound.{sizes}
use Rattle.lua_heap.specs.Plain.{plain}
use Rattle.graph_core.specs.Permanents.{permanents}
use Rattle.eris_write.specs.Keys.{Tells}
use Rattle.eris_write.proofs.Persisted.{persisted}
use Rattle.eris_write.proofs.Readable.{cells_readable, texts_there}
use Rattle.eris_write.proofs.image.persist.Goals as goal

pub returns-then-equal : goal.returns-then-equal
returns-then-equal c = subst (λ b. Tells b (permanents c.args.permanents.now)) c.if-equal.true c.in_ok-equal.ensures

pub reach-requires-clause-there : goal.reach-requires-clause-there
reach-requires-clause-there c = cells_readable c.args.world.now (record { primitives = c.requires.primitives; solid = c.requires.solid; order = c.requires.order })

pub write_image-requires-clause-readable : goal.write_image-requires-clause-readable
write_image-requires-clause-readable c = record { primitives = c.requires.primitives; solid = c.requires.solid; order = c.requires.order }

pub write_image-requires-clause-texts : goal.write_image-requires-clause-texts
write_image-requires-clause-texts c = texts_there c.strings_are_there.ensures (sizes c.requires.primitives (plain c.args.world.now 0)) c.args.world.now.strings c.args.roots.now c.requires.roots_there

pub write_image-requires-clause-few : goal.write_image-requires-clause-few
write_image-requires-clause-few c = c.requires.few

pub returns : goal.returns
returns c =
    persisted _ c.args.roots.now _ c.requires c.in_ok-numbering.ensures (subst (λ b. Tells b (permanents c.args.permanents.now)) c.if-equal.false c.in_ok-equal.ensures) c.in_ok-out.ensures c.finish.result c.finish.ensures

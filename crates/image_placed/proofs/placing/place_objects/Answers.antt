use Rattle.std.proofs.Common.{◌+◌, map, take, rules, subst}
use Rattle.lua_heap.specs.Codes.{functions}
use Rattle.image_placed.specs.Placing.{PlacesObjects, part_read}
use Rattle.lua_heap.proofs.Added.{take_over}
use Rattle.image_placed.proofs.ObjectsPlaced.{taken_more, placed_none, placed_more}
use Rattle.image_placed.proofs.placing.place_objects.Goals as goal

pub loop-part-init : goal.loop-part-init
loop-part-init c = placed_none c.args.maker.now c.args.world.now

pub loop-part-preserved : goal.loop-part-preserved
loop-part-preserved c =
    let taken = taken_more c.args.parts.now c.loop-part.part-index c.part-item.result (search rules) c.part-item.is in
    placed_more c.args.maker.now c.args.world.now c.loop-part.world c.place_object.new.world (take c.loop-part.part-index c.args.parts.now) (take (c.loop-part.part-index + 1) c.args.parts.now) c.part-item.result c.loop-part.invariant c.in_ok-place_object.ensures.placed taken

pub returns-clause-placed : goal.returns-clause-placed
returns-clause-placed c =
    subst (λ ps. PlacesObjects c.args.maker.now (map (part_read (functions c.args.world.now.codes)) ps) c.args.world.now c.loop-part.world)
    (take_over c.loop-part.part-index c.args.parts.now c.loop-part-test.false) c.loop-part.invariant

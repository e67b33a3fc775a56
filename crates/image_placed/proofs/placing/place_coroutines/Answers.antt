use Rattle.std.proofs.Common.{◌+◌, map, take, rules, subst}
use Rattle.lua_heap.specs.Codes.{functions}
use Rattle.image_placed.specs.Placing.{PlacesCoroutines, part_read}
use Rattle.lua_heap.proofs.Added.{take_over}
use Rattle.image_placed.proofs.ObjectsPlaced.{taken_more, coroutines_none, coroutines_more}
use Rattle.image_placed.proofs.placing.place_coroutines.Goals as goal

pub loop-part-init : goal.loop-part-init
loop-part-init c = coroutines_none c.args.maker.now c.args.world.now c.args.openings.now 0

pub loop-part-preserved : goal.loop-part-preserved
loop-part-preserved c =
    let taken = taken_more c.args.parts.now c.loop-part.part-index c.part-item.result (search rules) c.part-item.is in
    coroutines_more c.args.maker.now c.args.world.now c.loop-part.world c.place_coroutine.new.world c.args.openings.now 0 c.loop-part.at c.in_ok-at.at (take c.loop-part.part-index c.args.parts.now) (take (c.loop-part.part-index + 1) c.args.parts.now) c.part-item.result
    c.loop-part.invariant c.in_ok-at.ensures.placed taken

pub returns-clause-placed : goal.returns-clause-placed
returns-clause-placed c =
    subst (λ ps. PlacesCoroutines c.args.maker.now (map (part_read (functions c.args.world.now.codes)) ps) c.args.openings.now 0 c.loop-part.at c.args.world.now c.loop-part.world)
    (take_over c.loop-part.part-index c.args.parts.now c.loop-part-test.false) c.loop-part.invariant

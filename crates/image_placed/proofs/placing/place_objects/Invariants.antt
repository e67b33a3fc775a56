use Rattle.std.proofs.Common.{map, take}
use Rattle.lua_heap.specs.Codes.{functions}
use Rattle.image_placed.specs.Placing.{PlacesObjects, part_read}
use Rattle.image_placed.proofs.placing.place_objects.Given as goal

abbrev pub invariant-loop-part : goal.invariant-loop-part
invariant-loop-part l = PlacesObjects l.maker (map (part_read (functions l.initial.world.codes)) (take l.part-index l.parts)) l.initial.world l.world

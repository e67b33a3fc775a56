use Rattle.std.proofs.Common.{map, take}
use Rattle.lua_heap.specs.Codes.{functions}
use Rattle.image_placed.specs.Placing.{PlacesCoroutines, part_read}
use Rattle.image_placed.proofs.placing.place_coroutines.Given as goal

abbrev pub invariant-loop-part : goal.invariant-loop-part
invariant-loop-part l = PlacesCoroutines l.maker (map (part_read (functions l.initial.world.codes)) (take l.part-index l.parts)) l.openings 0 l.at l.initial.world l.world

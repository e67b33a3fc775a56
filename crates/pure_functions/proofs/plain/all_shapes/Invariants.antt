use Rattle.std.proofs.Common.{◌≡◌, map, take}
use Rattle.int_core.specs.Value.{shape}
use Rattle.library_arguments.specs.Shapes.{shapes_of}
use Rattle.lua_heap.specs.Reading.{value}
use Rattle.pure_functions.proofs.plain.all_shapes.Given as goal

abbrev pub invariant-loop-at : goal.invariant-loop-at
invariant-loop-at l = shapes_of l.shapes.items ≡ map shape (take l.at (map (value l.world.strings) l.arguments))

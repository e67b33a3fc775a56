use Rattle.std.proofs.Common.{map, take}
use Rattle.std.specs.Prelude.{flat_map}
use Rattle.image_core.specs.Records.{frame_fields}
use Rattle.lua_stack.specs.Frames.{frame_of}
use Rattle.lua_heap.specs.Reading.{value}
use Rattle.graph_core.specs.Walk.{MeetsFields, texts_in}
use Rattle.graph_core.proofs.walk.Walk.meet_frames.Given as goal

abbrev pub invariant-loop-at : goal.invariant-loop-at
invariant-loop-at l = MeetsFields l.self l.initial.seen.keys l.seen.keys (flat_map frame_fields (map (frame_of (value (texts_in l.self))) (take l.at l.stack.frames)))

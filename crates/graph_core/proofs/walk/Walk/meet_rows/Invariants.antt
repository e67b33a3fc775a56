use Rattle.std.proofs.Common.{take}
use Rattle.std.specs.Prelude.{flat_map}
use Rattle.image_core.specs.Records.{row_fields}
use Rattle.lua_heap.specs.Reading.{row}
use Rattle.graph_core.specs.Walk.{MeetsFields, texts_in}
use Rattle.graph_core.proofs.walk.Walk.meet_rows.Given as goal

abbrev pub invariant-loop-at : goal.invariant-loop-at
invariant-loop-at l = MeetsFields l.self l.initial.seen.keys l.seen.keys (flat_map (λ r. row_fields (row (texts_in l.self) r)) (take l.at l.table.rows))

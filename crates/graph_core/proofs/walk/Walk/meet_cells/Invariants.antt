use Rattle.std.proofs.Common.{[], ◌∷◌, take}
use Rattle.std.specs.Prelude.{flat_map}
use Rattle.image_core.specs.Records.{of_cell}
use Rattle.graph_core.specs.Walk.{MeetsFields}
use Rattle.graph_core.proofs.walk.Walk.meet_cells.Given as goal

abbrev pub invariant-loop-at : goal.invariant-loop-at
invariant-loop-at l = MeetsFields l.self l.initial.seen.keys l.seen.keys (flat_map (λ c. of_cell c.0 ∷ []) (take l.at l.cells))

use Rattle.std.proofs.Common.{[], ◌∷◌, take}
use Rattle.std.specs.Prelude.{flat_map}
use Rattle.graph_core.specs.Walk.{MeetsFields, value_field}
use Rattle.graph_core.proofs.walk.Walk.meet_all.Given as goal

abbrev pub invariant-loop-at : goal.invariant-loop-at
invariant-loop-at l = MeetsFields l.self l.initial.seen.keys l.seen.keys (flat_map (λ v. value_field l.self v ∷ []) (take l.at l.values))

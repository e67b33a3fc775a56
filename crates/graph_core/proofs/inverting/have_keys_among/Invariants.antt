use Rattle.graph_core.specs.Permanents.{permanents}
use Rattle.graph_core.proofs.Pairs.{FirstHaveKeys}
use Rattle.graph_core.proofs.inverting.have_keys_among.Given as goal

abbrev pub invariant-loop-at : goal.invariant-loop-at
invariant-loop-at l = FirstHaveKeys (permanents l.inner) (permanents l.outer) l.at

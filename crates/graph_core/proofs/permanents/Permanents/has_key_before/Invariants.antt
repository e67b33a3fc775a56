use Rattle.graph_core.specs.Permanents.{permanents}
use Rattle.graph_core.proofs.Pairs.{NoneBefore}
use Rattle.graph_core.proofs.permanents.Permanents.has_key_before.Given as goal

abbrev pub invariant-loop-before : goal.invariant-loop-before
invariant-loop-before l = NoneBefore (permanents l.self) l.at l.before

use Rattle.graph_core.specs.Permanents.{permanents}
use Rattle.graph_core.proofs.Pairs.{AreApart}
use Rattle.graph_core.proofs.permanents.Permanents.has_each_key_once.Given as goal

abbrev pub invariant-loop-at : goal.invariant-loop-at
invariant-loop-at l = AreApart (permanents l.self) l.at

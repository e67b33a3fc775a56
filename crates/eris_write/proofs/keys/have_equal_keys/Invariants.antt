use Rattle.graph_core.specs.Permanents.{permanents}
use Rattle.eris_write.proofs.Equal.{AreSeen}
use Rattle.eris_write.proofs.keys.have_equal_keys.Given as goal

abbrev pub invariant-loop-at : goal.invariant-loop-at
invariant-loop-at l = AreSeen (permanents l.permanents) l.at l.seen.keys

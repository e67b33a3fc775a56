use Rattle.machine_operations.proofs.Joins.{Joining}
use Rattle.machine_operations.proofs.joining.join_in_turn.Given as goal

abbrev pub invariant-loop-left : goal.invariant-loop-left
invariant-loop-left l = Joining l.fn.world l.world l.fn.first l.fn.count l.left l.fn.last l.whole

abbrev pub decreases-loop-left : goal.decreases-loop-left
decreases-loop-left l = l.left

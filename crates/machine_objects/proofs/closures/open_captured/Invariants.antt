use Rattle.machine_objects.proofs.Opened.{OpenSoFar}
use Rattle.machine_objects.proofs.closures.open_captured.Given as goal

abbrev pub invariant-loop-at : goal.invariant-loop-at
invariant-loop-at l = OpenSoFar l.fn.world l.world l.code l.at

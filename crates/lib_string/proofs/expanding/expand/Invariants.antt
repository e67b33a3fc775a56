use Rattle.std.proofs.Common.{length}
use Rattle.library_arguments.specs.Shapes.{shapes_of}
use Rattle.lib_string.proofs.Expansions.{IsExpandedSoFar}
use Rattle.lib_string.proofs.expanding.expand.Given as goal

abbrev pub invariant-loop-byte : goal.invariant-loop-byte
invariant-loop-byte l = IsExpandedSoFar (shapes_of l.captures) l.replacement l.rest l.text

abbrev pub decreases-loop-byte : goal.decreases-loop-byte
decreases-loop-byte l = length l.rest

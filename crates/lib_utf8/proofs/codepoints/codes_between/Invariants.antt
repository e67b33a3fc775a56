use Rattle.std.proofs.Common.{◌-◌, length}
use Rattle.library_arguments.specs.Shapes.{known_of}
use Rattle.std.specs.Prelude.{map}
use Rattle.lib_utf8.proofs.Sequences.{AreSoFar}
use Rattle.lib_utf8.proofs.codepoints.codes_between.Given as goal

abbrev pub invariant-loop-at : goal.invariant-loop-at
invariant-loop-at l = AreSoFar l.lax l.text l.from l.end l.at (map known_of l.values.items)

abbrev pub decreases-loop-at : goal.decreases-loop-at
decreases-loop-at l = length l.text - l.at

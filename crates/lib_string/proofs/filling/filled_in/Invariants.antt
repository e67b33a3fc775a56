use Rattle.std.proofs.Common.{◌≤◌, ◌+◌, length}
use Rattle.library_arguments.specs.Shapes.{shapes_of}
use Rattle.lib_string.proofs.Fillings.{IsFilledSoFar}
use Rattle.lib_string.proofs.filling.filled_in.Given as goal

abbrev pub invariant-loop-next : goal.invariant-loop-next
invariant-loop-next l =
    IsFilledSoFar (shapes_of l.shapes) l.format l.rest l.text.items l.place × (2 ≤ l.place) × (l.place + length l.rest ≤ 2 + length l.format)

abbrev pub decreases-loop-next : goal.decreases-loop-next
decreases-loop-next l = length l.rest

use Rattle.std.proofs.Common.{◌≡◌, ◌≤◌}
use Rattle.library_rows.specs.Codepoints.{sequence_start}
use Rattle.utf8_core.proofs.offsets.sequence_start.Given as goal

abbrev pub invariant-loop-place : goal.invariant-loop-place
invariant-loop-place l = (l.place ≤ l.at) × (sequence_start l.text l.at ≡ sequence_start l.text l.place)

abbrev pub decreases-loop-place : goal.decreases-loop-place
decreases-loop-place l = l.place

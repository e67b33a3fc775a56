use Rattle.std.proofs.Common.{◌-◌, ◌≡◌, ◌≤◌, drop, length}
use Rattle.library_rows.specs.Codepoints.{counted_until}
use Rattle.utf8_core.proofs.counting.count.Given as goal

abbrev pub invariant-loop-at : goal.invariant-loop-at
invariant-loop-at l =
    (l.at ≤ length l.text) × (l.found ≤ l.at) × (counted_until l.lax 0 l.from l.end (drop l.from l.text) 0 ≡ counted_until l.lax 0 l.at l.end (drop l.at l.text) l.found)

abbrev pub decreases-loop-at : goal.decreases-loop-at
decreases-loop-at l = length l.text - l.at

use Rattle.std.proofs.Common.{◌≡◌, ◌≤◌, ◌+◌, [], length}
use Rattle.library_rows.specs.Searches.{first_hit}
use Rattle.text_match.proofs.hits.first_hit.Given as goal

abbrev pub invariant-places : goal.invariant-places
invariant-places l =
    (l.place + l.more ≤ length l.subject) × (first_hit l.barred l.subject l.items l.at l.left ≡ first_hit l.barred l.subject l.items l.place l.more) × (l.captures.items ≡ [])

abbrev pub decreases-places : goal.decreases-places
decreases-places l = l.more

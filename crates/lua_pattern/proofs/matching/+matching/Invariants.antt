use Rattle.std.proofs.Common.{◌≡◌, ◌+◌, ◌-◌, ◌*◌, ◌≤◌, length, drop, reverse}
use Rattle.std.specs.List.{flat_map, range_with_len}
use Rattle.lua_pattern.specs.Ends.{ends}
use Rattle.lua_pattern.specs.Firsts.{AreBefore}
use Rattle.lua_pattern.specs.Ways.{run_of}
use Rattle.lua_pattern.proofs.matching.+matching.Given as goal

-- Each call of the circle has fewer items before it, or the same and a step less to the try of all of them.

abbrev pub decreases-first_match : goal.decreases-first_match
decreases-first_match l = 4 * length l.items.now + 1

abbrev pub decreases-tried : goal.decreases-tried
decreases-tried l = 4 * length l.rest.now + 2

abbrev pub decreases-longest_first : goal.decreases-longest_first
decreases-longest_first l = 4 * length l.rest.now + 3

abbrev pub decreases-shortest_first : goal.decreases-shortest_first
decreases-shortest_first l = 4 * length l.rest.now + 3

abbrev pub decreases-captured : goal.decreases-captured
decreases-captured l = 4 * length l.rest.now + 2

abbrev pub decreases-closed : goal.decreases-closed
decreases-closed l = 4 * length l.rest.now + 2

abbrev pub decreases-repeated : goal.decreases-repeated
decreases-repeated l = 4 * length l.rest.now + 4

-- the items that are left have the same matches from here as all have from the start
abbrev pub invariant-first_match-loop-item : goal.invariant-first_match-loop-item
invariant-first_match-loop-item l =
    (l.at ≤ length l.subject) × (length l.left ≤ length l.initial.left) × (l.captures.items ≡ l.initial.captures.items) × AreBefore l.at l.captures.items × (ends l.subject l.left l.at l.captures.items ≡ ends l.subject l.initial.left l.initial.at l.initial.captures.items) × (l.initial.at ≤ l.at)

abbrev pub decreases-first_match-loop-item : goal.decreases-first_match-loop-item
decreases-first_match-loop-item l = length l.left

-- the tries that are left have all the matches
abbrev pub invariant-longest_first-loop-tries : goal.invariant-longest_first-loop-tries
invariant-longest_first-loop-tries l =
    (l.tries ≤ l.initial.tries) × (l.captures.items ≡ l.initial.captures.items) × (flat_map (λ place. ends l.subject l.rest place l.initial.captures.items) (reverse (range_with_len l.first l.tries)) ≡ flat_map (λ place. ends l.subject l.rest place l.initial.captures.items) (reverse (range_with_len l.first l.initial.tries)))

abbrev pub decreases-longest_first-loop-tries : goal.decreases-longest_first-loop-tries
decreases-longest_first-loop-tries l = l.tries

-- the places from here on have all the matches
abbrev pub invariant-shortest_first-loop-end : goal.invariant-shortest_first-loop-end
invariant-shortest_first-loop-end l =
    (l.at ≤ l.place) × (l.place ≤ length l.subject) × (l.captures.items ≡ l.initial.captures.items) × (flat_map (λ place. ends l.subject l.rest place l.initial.captures.items) (range_with_len l.place (run_of l.class (drop l.place l.subject) + 1)) ≡ flat_map (λ place. ends l.subject l.rest place l.initial.captures.items) (range_with_len l.at (run_of l.class (drop l.at l.subject) + 1)))

abbrev pub decreases-shortest_first-loop-end : goal.decreases-shortest_first-loop-end
decreases-shortest_first-loop-end l = length l.subject - l.place

use Rattle.std.proofs.Common.{◌≡◌, ◌≤◌, ℕ, length}
use Rattle.object_pool.specs.Segments.{AreFilled, objects_in}
use Rattle.object_pool.proofs.segments.grow_to.Given as goal

abbrev pub invariant-loop : goal.invariant-loop
invariant-loop g l =
    ((n : ℕ) → AreFilled l.initial.segments.items n → AreFilled l.segments.items n)
    × (objects_in l.segments.items ≡ objects_in l.initial.segments.items)
    × (length l.initial.segments.items ≤ length l.segments.items)
    × (length l.segments.items ≡ l.counter)

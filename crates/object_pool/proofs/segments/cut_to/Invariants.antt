use Rattle.std.proofs.Common.{◌-◌, ◌≡◌, ◌≤◌, length, take}
use Rattle.object_pool.specs.Segments.{AreFilled, objects_in}
use Rattle.object_pool.proofs.segments.cut_to.Given as goal

abbrev pub invariant-loop-left : goal.invariant-loop-left
invariant-loop-left g l =
    AreFilled l.segments.items l.left
    × (objects_in l.segments.items ≡ take l.left (objects_in l.initial.segments.items))
    × (length l.segments.items ≡ length l.initial.segments.items)
    × (l.mark ≤ l.left)
    × (l.left ≤ l.len)

abbrev pub decreases-loop-left : goal.decreases-loop-left
decreases-loop-left g l = l.left - l.mark

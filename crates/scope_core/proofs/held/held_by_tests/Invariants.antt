-- The greatest number so far and that of what is left give that of all.
use Rattle.std.proofs.Common.{◌≡◌, ◌≤◌, map, drop, min, max}
use Rattle.tree_core.specs.Tree.{arms}
use Rattle.tree_core.specs.Plain.{plain_arm}
use Rattle.scope_core.specs.Held.{held_tests}
use Rattle.scope_core.proofs.held.held_by_tests.Given as goal

abbrev pub invariant-loop-arm : goal.invariant-loop-arm
invariant-loop-arm l =
    (l.most ≤ 1000)
    × (min (max l.most (held_tests (arms (map plain_arm (drop l.arm-index l.list))))) 1000 ≡ min (held_tests (arms (map plain_arm l.list))) 1000)

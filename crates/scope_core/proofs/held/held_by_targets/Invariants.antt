-- The greatest number so far and that of what is left give that of all.
use Rattle.std.proofs.Common.{◌≡◌, ◌≤◌, drop, min, max}
use Rattle.tree_core.specs.Tree.{exps}
use Rattle.tree_core.specs.Plain.{plain_exps}
use Rattle.scope_core.specs.Held.{held_targets}
use Rattle.scope_core.proofs.held.held_by_targets.Given as goal

abbrev pub invariant-loop-target : goal.invariant-loop-target
invariant-loop-target l =
    (l.next ≤ 1000)
    × (l.most ≤ 1000)
    × (min (max l.most (held_targets l.next (exps (plain_exps (drop l.target-index l.targets))))) 1000 ≡ min (held_targets 0 (exps (plain_exps l.targets))) 1000)

-- The functions that are listed and those of what is left of a list are those of all.
use Rattle.std.proofs.Common.{◌≡◌, ◌++◌, map, drop}
use Rattle.tree_core.specs.Tree.{stats, arms}
use Rattle.tree_core.specs.Plain.{plain_stat, plain_arm, plain_body}
use Rattle.code_parts.specs.Bodies.{stats_bodies, arms_bodies}
use Rattle.code_parts.proofs.bodies.+statements.Given as goal

abbrev pub invariant-find_in_stats-loop-stat : goal.invariant-find_in_stats-loop-stat
invariant-find_in_stats-loop-stat l =
    map (λ b. plain_body b.now) l.found.items ++ stats_bodies (stats (map plain_stat (drop l.stat-index l.stat-items)))
    ≡ map (λ b. plain_body b.now) l.fn.found.items ++ stats_bodies (stats (map plain_stat l.list.items))

abbrev pub invariant-find_in_arms-loop-arm : goal.invariant-find_in_arms-loop-arm
invariant-find_in_arms-loop-arm l =
    map (λ b. plain_body b.now) l.found.items ++ arms_bodies (arms (map plain_arm (drop l.arm-index l.arm-items)))
    ≡ map (λ b. plain_body b.now) l.fn.found.items ++ arms_bodies (arms (map plain_arm l.list.items))

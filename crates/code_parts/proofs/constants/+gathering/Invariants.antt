-- What is left of a list leads to what the whole list leads to.
use Rattle.std.proofs.Common.{◌≡◌, map, drop}
use Rattle.tree_core.specs.Tree.{stats, arms}
use Rattle.tree_core.specs.Plain.{plain_stat, plain_arm}
use Rattle.code_of.specs.Constants.{of_stats, of_arms}
use Rattle.code_parts.proofs.constants.+gathering.Given as goal

abbrev pub invariant-add_stats-loop-stat : goal.invariant-add_stats-loop-stat
invariant-add_stats-loop-stat l =
    of_stats (stats (map plain_stat (drop l.stat-index l.stat-items))) l.constants ≡ of_stats (stats (map plain_stat l.list.items)) l.fn.constants

abbrev pub invariant-add_arms-loop-arm : goal.invariant-add_arms-loop-arm
invariant-add_arms-loop-arm l =
    of_arms (arms (map plain_arm (drop l.arm-index l.arm-items))) l.constants ≡ of_arms (arms (map plain_arm l.list.items)) l.fn.constants

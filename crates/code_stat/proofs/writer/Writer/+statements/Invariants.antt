-- What is left of a block's statements leads to what all lead to.
use Rattle.std.proofs.Common.{◌≡◌, ◌+◌, ◌*◌, [], map, drop}
use Rattle.tree_core.specs.Tree.{stats, arms}
use Rattle.tree_core.specs.Plain.{plain_stat, plain_arm, plain_block}
use Rattle.tree_terms.specs.Levels.{levels_after}
use Rattle.code_of.specs.Levels.{closings_after}
use Rattle.code_stat.specs.Drafts.{newest_first}
use Rattle.code_stat.proofs.Lists.{StatsLeft}
use Rattle.code_stat.proofs.Declaring.{DeclaresLeft}
use Rattle.code_stat.proofs.Heights.{stat_height, stats_height, block_height, arms_height, other_height}
use Rattle.code_stat.proofs.writer.Writer.+statements.Given as goal

abbrev pub invariant-statements-loop-stat : goal.invariant-statements-loop-stat
invariant-statements-loop-stat l =
    (l.done ≡ l.stat-index)
    × (levels_after (stats (map plain_stat (drop l.stat-index l.stat-items))) l.scope.level ≡ levels_after (stats (map plain_stat l.list.items)) l.level)
    × (closings_after (stats (map plain_stat (drop l.stat-index l.stat-items))) l.scope.closing ≡ closings_after (stats (map plain_stat l.list.items)) l.closing)
    × (StatsLeft l.fn.self l.self (stats (map plain_stat (drop l.stat-index l.stat-items))) (stats (map plain_stat l.list.items)) l.falls l.scope.closing l.outer l.scope.level l.closing l.level (newest_first l.passed.items []))
    × (DeclaresLeft l.fn.self l.self (stats (map plain_stat (drop l.stat-index l.stat-items))) (stats (map plain_stat l.list.items)) l.scope.closing l.scope.level l.closing l.level)

-- calls go down the tree, and along the arms of an `if`

abbrev pub decreases-statement : goal.decreases-statement
decreases-statement l = 4 * stat_height (plain_stat l.stat.now)

abbrev pub decreases-statements : goal.decreases-statements
decreases-statements l = 4 * stats_height (stats (map plain_stat l.list.now.items)) + 1

abbrev pub decreases-block : goal.decreases-block
decreases-block l = 4 * block_height (plain_block l.block.now)

abbrev pub decreases-open_block : goal.decreases-open_block
decreases-open_block l = 4 * block_height (plain_block l.block.now)

abbrev pub decreases-while_loop : goal.decreases-while_loop
decreases-while_loop l = 4 * block_height (plain_block l.block.now) + 1

abbrev pub decreases-repeat_loop : goal.decreases-repeat_loop
decreases-repeat_loop l = 4 * block_height (plain_block l.block.now) + 1

abbrev pub decreases-counted : goal.decreases-counted
decreases-counted l = 4 * block_height (plain_block l.block.now) + 1

abbrev pub decreases-iterated : goal.decreases-iterated
decreases-iterated l = 4 * block_height (plain_block l.block.now) + 1

abbrev pub decreases-arms : goal.decreases-arms
decreases-arms l = 4 * (arms_height (arms (map plain_arm (drop l.at l.list.now.items))) + other_height l.otherwise.now) + 2

abbrev pub decreases-otherwise : goal.decreases-otherwise
decreases-otherwise l = 4 * other_height l.otherwise.now + 1

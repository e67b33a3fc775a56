-- What is left of a list leads to what the whole list leads to.
use Rattle.std.proofs.Common.{◌≡◌, [], map, drop, take, reverse}
use Rattle.tree_core.specs.Tree as tree
use Rattle.tree_core.specs.Plain.{plain_arm, plain_exps, plain_field, plain_stat}
use Rattle.scope_core.specs.Scopes.{behind_stats}
use Rattle.lua_scope.specs.Met.{met_arms, met_exps, met_fields, met_stats}
use Rattle.lua_scope.specs.Blocks.{scope_at}
use Rattle.lua_scope.proofs.Placing.{Inside}
use Rattle.lua_scope.proofs.walk.+rules.Given as goal

abbrev pub invariant-meet_exps-loop-exp : goal.invariant-meet_exps-loop-exp
invariant-meet_exps-loop-exp l =
    (l.nesting ≡ l.fn.nesting)
    × (met_exps l.nesting l.fn.is_vararg l.least.violation (tree.exps (plain_exps (drop l.exp-index l.exp-items))) ≡ met_exps l.fn.nesting l.fn.is_vararg l.fn.least.violation (tree.exps (plain_exps l.list.items)))

abbrev pub invariant-meet_fields-loop-field : goal.invariant-meet_fields-loop-field
invariant-meet_fields-loop-field l =
    (l.nesting ≡ l.fn.nesting)
    × (met_fields l.nesting l.fn.is_vararg l.least.violation (tree.fields (map plain_field (drop l.field-index l.field-items))) ≡ met_fields l.fn.nesting l.fn.is_vararg l.fn.least.violation (tree.fields (map plain_field l.list.items)))

abbrev pub invariant-meet_arms-loop-arm : goal.invariant-meet_arms-loop-arm
invariant-meet_arms-loop-arm l =
    (l.nesting ≡ l.fn.nesting)
    × (l.blocks.items ≡ l.fn.blocks.items)
    × (met_arms (scope_at l.nesting l.fn.blocks.items l.fn.flags) l.least.violation (tree.arms (map plain_arm (drop l.arm-index l.arm-items))) ≡ met_arms (scope_at l.fn.nesting l.fn.blocks.items l.fn.flags) l.fn.least.violation (tree.arms (map plain_arm l.list.items)))

abbrev pub invariant-meet_stats-loop-stat : goal.invariant-meet_stats-loop-stat
invariant-meet_stats-loop-stat l =
    Inside l.fn.blocks.items l.blocks.items l.list.items l.fn.ends_scope
    × (l.before ≡ l.stat-index)
    × (l.stat-items ≡ l.list.items)
    × (behind_stats l.nesting (tree.stats (drop l.stat-index (map plain_stat l.list.items))) ≡ behind_stats l.fn.nesting (tree.stats (map plain_stat l.list.items)))
    × (met_stats (scope_at l.nesting l.fn.blocks.items l.fn.flags) (reverse (take l.stat-index (map plain_stat l.list.items))) l.fn.ends_scope l.least.violation (tree.stats (drop l.stat-index (map plain_stat l.list.items))) ≡ met_stats (scope_at l.fn.nesting l.fn.blocks.items l.fn.flags) [] l.fn.ends_scope l.fn.least.violation (tree.stats (map plain_stat l.list.items)))

-- The statements from here on decide.
use Rattle.std.proofs.Common.{◌≡◌, ◌-◌, length, map, drop}
use Rattle.tree_core.specs.Tree.{stats}
use Rattle.tree_core.specs.Plain.{plain_stat}
use Rattle.scope_core.specs.Rules.{find_behind}
use Rattle.lua_scope.proofs.labels.find_behind.Given as goal

abbrev pub invariant-loop-at : goal.invariant-loop-at
invariant-loop-at l =
    find_behind l.text l.entered l.block.ends_scope (stats (drop l.at (map plain_stat l.list.items)))
    ≡ find_behind l.text l.fn.declared l.block.ends_scope (stats (drop l.fn.start (map plain_stat l.list.items)))

abbrev pub decreases-loop-at : goal.decreases-loop-at
decreases-loop-at l = length l.list.items - l.at

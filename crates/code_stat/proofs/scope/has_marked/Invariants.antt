-- What is left of the statements declares a variable to be closed if all declare one.
use Rattle.std.proofs.Common.{◌≡◌, false, map, drop}
use Rattle.tree_core.specs.Tree.{stats}
use Rattle.tree_core.specs.Plain.{plain_stat}
use Rattle.code_of.specs.Levels.{closings_after}
use Rattle.code_stat.proofs.scope.has_marked.Given as goal

abbrev pub invariant-loop-stat : goal.invariant-loop-stat
invariant-loop-stat l = closings_after (stats (map plain_stat (drop l.stat-index l.stat-items))) false ≡ closings_after (stats (map plain_stat l.list.items)) false

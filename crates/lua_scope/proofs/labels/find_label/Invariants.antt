-- The blocks that were passed have no label of the name.
use Rattle.scope_core.specs.Rules.{find_label}
use Rattle.lua_scope.proofs.Sought.{IsLeft}
use Rattle.lua_scope.proofs.labels.find_label.Given as goal

abbrev pub invariant-loop-count : goal.invariant-loop-count
invariant-loop-count l = IsLeft (find_label l.text) l.count l.blocks.items

abbrev pub decreases-loop-count : goal.decreases-loop-count
decreases-loop-count l = l.count

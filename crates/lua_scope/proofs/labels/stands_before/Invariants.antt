-- In the blocks that were passed no such label stands before the place.
use Rattle.scope_core.specs.Rules.{stands_before}
use Rattle.lua_scope.proofs.Sought.{IsLeft}
use Rattle.lua_scope.proofs.labels.stands_before.Given as goal

abbrev pub invariant-loop-count : goal.invariant-loop-count
invariant-loop-count l = IsLeft (stands_before l.text) l.count l.blocks.items

abbrev pub decreases-loop-count : goal.decreases-loop-count
decreases-loop-count l = l.count

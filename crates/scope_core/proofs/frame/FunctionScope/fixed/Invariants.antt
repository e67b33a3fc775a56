-- The variables that were passed don't have the name.
use Rattle.std.proofs.Common.{◌≡◌, ◌≤◌, length, take, reverse}
use Rattle.std.specs.Prelude.{find}
use Rattle.scope_core.specs.Scopes.{has_name}
use Rattle.scope_core.proofs.frame.FunctionScope.fixed.Given as goal

abbrev pub invariant-loop-register : goal.invariant-loop-register
invariant-loop-register l =
    (l.register ≤ length l.self-inside.variables.items)
    × (find (has_name l.name) (reverse (take l.register l.self-inside.variables.items)) ≡ find (has_name l.name) (reverse l.self-inside.variables.items))

abbrev pub decreases-loop-register : goal.decreases-loop-register
decreases-loop-register l = l.register

-- The functions that were passed have no variable of the name.
use Rattle.std.proofs.Common.{◌≡◌, ◌≤◌, length, take, reverse}
use Rattle.scope_core.specs.Scopes.{names_fixed}
use Rattle.scope_core.proofs.nesting.Nesting.names_fixed.Given as goal

abbrev pub invariant-loop-count : goal.invariant-loop-count
invariant-loop-count l =
    (l.count ≤ length l.self-inside.functions.scopes.items)
    × (names_fixed l.name (reverse (take l.count l.self-inside.functions.scopes.items)) ≡ names_fixed l.name (reverse l.self-inside.functions.scopes.items))

abbrev pub decreases-loop-count : goal.decreases-loop-count
decreases-loop-count l = l.count

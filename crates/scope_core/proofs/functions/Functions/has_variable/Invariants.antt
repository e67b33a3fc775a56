-- A local variable of the name is one of a function that is left.
use Rattle.std.proofs.Common.{◌≡◌, drop, false}
use Rattle.std.specs.List.{list_any}
use Rattle.std.specs.Str.{bytes_eq}
use Rattle.scope_core.specs.Scopes.{is_local, environment}
use Rattle.scope_core.proofs.functions.Functions.has_variable.Given as goal

abbrev pub invariant-loop-scope : goal.invariant-loop-scope
invariant-loop-scope l =
    (list_any (is_local l.name) (drop l.scope-index l.scope-items) ≡ list_any (is_local l.name) l.self.scopes.items)
    × (bytes_eq l.name environment ≡ false)

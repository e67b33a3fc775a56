-- The variables so far and those that are left are all.
use Rattle.std.proofs.Common.{◌≡◌, ◌++◌, map, drop, Some}
use Rattle.code_parts.specs.Scopes.{begun}
use Rattle.code_parts.proofs.variables.Variables.declare_names.Given as goal

abbrev pub invariant-loop-name : goal.invariant-loop-name
invariant-loop-name l = l.self ++ map (λ name. begun (Some name.text) l.start) (drop l.name-index l.names) ≡ l.fn.self ++ map (λ name. begun (Some name.text) l.start) l.names

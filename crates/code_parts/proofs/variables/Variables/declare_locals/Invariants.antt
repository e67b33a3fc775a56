-- The variables so far and those that are left are all.
use Rattle.std.proofs.Common.{◌≡◌, ◌++◌, map, drop, Some}
use Rattle.code_parts.specs.Scopes.{begun}
use Rattle.code_parts.proofs.variables.Variables.declare_locals.Given as goal

abbrev pub invariant-loop-declared : goal.invariant-loop-declared
invariant-loop-declared l = l.self ++ map (λ d. begun (Some d.name.text) l.start) (drop l.declared-index l.names) ≡ l.fn.self ++ map (λ d. begun (Some d.name.text) l.start) l.names

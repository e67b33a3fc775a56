-- The variables so far.
use Rattle.std.proofs.Common.{◌≡◌, map}
use Rattle.code_parts.specs.Scopes.{finished}
use Rattle.code_parts.proofs.variables.Variables.into_vec.Given as goal

abbrev pub invariant-loop-variable : goal.invariant-loop-variable
invariant-loop-variable l = l.list.items ≡ map finished l.yielded

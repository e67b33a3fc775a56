-- The variables so far and those that are left are all.
use Rattle.std.proofs.Common.{◌≡◌, ◌++◌, ◌-◌}
use Rattle.code_parts.specs.Scopes.{hidden_from}
use Rattle.code_parts.proofs.variables.Variables.hide.Given as goal

abbrev pub invariant-loop : goal.invariant-loop
invariant-loop l = l.self ++ hidden_from (l.count - l.counter) l.start ≡ l.fn.self ++ hidden_from l.count l.start

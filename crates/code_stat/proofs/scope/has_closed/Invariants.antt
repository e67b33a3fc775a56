-- What is left of the names has a variable to be closed if all have one.
use Rattle.std.proofs.Common.{◌≡◌, drop}
use Rattle.code_of.specs.Levels.{has_closed}
use Rattle.code_stat.proofs.scope.has_closed.Given as goal

abbrev pub invariant-loop-declared : goal.invariant-loop-declared
invariant-loop-declared l = has_closed (drop l.declared-index l.declared-items) ≡ has_closed l.names.items

-- What is left of a list leads to what the whole list leads to.
use Rattle.std.proofs.Common.{map, drop}
use Rattle.scope_core.specs.Scopes.{declare_all, plain_variable}
use Rattle.lua_scope.specs.Met.{met_names}
use Rattle.lua_scope.proofs.Declaring.{IsDeclaring}
use Rattle.lua_scope.proofs.walk.declare_names.Given as goal

abbrev pub invariant-loop-name : goal.invariant-loop-name
invariant-loop-name l =
    IsDeclaring plain_variable met_names l.nesting l.least.violation (drop l.name-index l.name-items)
    (declare_all l.fn.nesting (map plain_variable l.names.items)) (met_names l.fn.nesting l.fn.least.violation l.names.items)

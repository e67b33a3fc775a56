-- What is left of a list leads to what the whole list leads to.
use Rattle.std.proofs.Common.{map, drop}
use Rattle.scope_core.specs.Scopes.{declare_all, declared_variable}
use Rattle.lua_scope.specs.Met.{met_declarations}
use Rattle.lua_scope.proofs.Declaring.{IsDeclaring}
use Rattle.lua_scope.proofs.walk.declare_locals.Given as goal

abbrev pub invariant-loop-declared : goal.invariant-loop-declared
invariant-loop-declared l =
    IsDeclaring declared_variable met_declarations l.nesting l.least.violation (drop l.declared-index l.declared-items)
    (declare_all l.fn.nesting (map declared_variable l.names.items)) (met_declarations l.fn.nesting l.fn.least.violation l.names.items)

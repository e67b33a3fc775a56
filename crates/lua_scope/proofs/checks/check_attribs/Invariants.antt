-- What is left of a list leads to what the whole list leads to.
use Rattle.std.proofs.Common.{◌≡◌, false, drop}
use Rattle.scope_core.specs.Rules.{attrib_violations}
use Rattle.lua_scope.specs.Met.{meet_all}
use Rattle.lua_scope.proofs.checks.check_attribs.Given as goal

abbrev pub invariant-loop-declared : goal.invariant-loop-declared
invariant-loop-declared l =
    meet_all l.least.violation (attrib_violations l.closed (drop l.declared-index l.declared-items))
    ≡ meet_all l.fn.least.violation (attrib_violations false l.names.items)

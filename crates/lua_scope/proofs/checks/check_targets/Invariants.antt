-- What is left of a list leads to what the whole list leads to.
use Rattle.std.proofs.Common.{◌≡◌, drop}
use Rattle.tree_core.specs.Tree.{exps}
use Rattle.tree_core.specs.Plain.{plain_exps}
use Rattle.scope_core.specs.Rules.{target_violations}
use Rattle.lua_scope.specs.Met.{meet_all}
use Rattle.lua_scope.proofs.checks.check_targets.Given as goal

abbrev pub invariant-loop-target : goal.invariant-loop-target
invariant-loop-target l =
    meet_all l.least.violation (target_violations l.nesting (exps (plain_exps (drop l.target-index l.target-items))))
    ≡ meet_all l.fn.least.violation (target_violations l.nesting (exps (plain_exps l.targets.items)))

use Rattle.std.proofs.Common.{ap, sym, ◌∙◌}
use Rattle.tree_core.specs.Plain.{plain_stat_node}
use Rattle.tree_core.proofs.Rows.{plain-assign}
use Rattle.scope_core.specs.Rules.{stat_violations}
use Rattle.lua_scope.specs.Met.{meet_all}
use Rattle.lua_scope.specs.Blocks.{scope_at}
use Rattle.lua_scope.proofs.checks.check_form.Goals as goal

pub returns-in-Assign : goal.returns-in-Assign
returns-in-Assign c =
    c.check_targets.ensures
    ∙ ap (λ s. meet_all c.args.least.now.violation (stat_violations (scope_at c.args.nesting.now c.args.blocks.now.items c.args.flags) s))
    (sym (ap (λ node. plain_stat_node node c.args.stat.now.line) c.in-Assign.is ∙ plain-assign c.args.stat.now.line c.in-Assign.targets c.in-Assign.field-1))

use Rattle.std.proofs.Common.{◌+◌, ap, sym, ◌∙◌}
use Rattle.std.specs.Prelude.{nat_lt}
use Rattle.tree_core.specs.Plain.{plain_stat}
use Rattle.scope_core.specs.Held.{held_stat}
use Rattle.scope_core.specs.Rules.{breach, locals, stat_line, stat_violations}
use Rattle.lua_scope.specs.Met.{meet_all}
use Rattle.lua_scope.specs.Blocks.{scope_at}
use Rattle.lua_scope.proofs.Meeting.{meet_append, held_met, line_of_stat}
use Rattle.lua_scope.proofs.checks.check_stat.Goals as goal

pub returns : goal.returns
returns c =
    c.check_held.ensures
    ∙ held_met c.check_form.new.least.violation (locals c.args.nesting.now) (held_stat (plain_stat c.args.stat.now)) c.held_by_stat.result c.args.stat.now.line c.held_by_stat.ensures
    ∙ ap (λ line. meet_all c.check_form.new.least.violation (breach (nat_lt 250 (locals c.args.nesting.now + held_stat (plain_stat c.args.stat.now))) line 11)) (sym (line_of_stat c.args.stat.now))
    ∙ ap (λ o. meet_all o (breach (nat_lt 250 (locals c.args.nesting.now + held_stat (plain_stat c.args.stat.now))) (stat_line (plain_stat c.args.stat.now)) 11)) c.check_form.ensures
    ∙ sym (meet_append c.args.least.now.violation (stat_violations (scope_at c.args.nesting.now c.args.blocks.now.items c.args.flags) (plain_stat c.args.stat.now)) (breach (nat_lt 250 (locals c.args.nesting.now + held_stat (plain_stat c.args.stat.now))) (stat_line (plain_stat c.args.stat.now)) 11))

use Rattle.std.proofs.Common.{rules, ◌≡◌, length}
use Rattle.tree_core.specs.Plain.{plain_exp}
use Rattle.code_of.specs.Expressions.{exp_code, made_by}
use Rattle.code_stat.proofs.targets.count_made.Goals as goal

pub returns : goal.returns
returns c =
    let place : c.len-place.result ≡ length c.args.emitter.now.steps = search rules in
    c.cut.ensures c.args.emitter.now (exp_code c.args.emitter.now.constants (plain_exp c.args.exp.now) 0 c.args.emitter.now.made 2) (made_by (plain_exp c.args.exp.now)) place c.in_ok-expression.ensures

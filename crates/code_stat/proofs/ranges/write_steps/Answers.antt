use Rattle.std.proofs.Common.{arith, ◌≡◌, ◌+◌}
use Rattle.tree_core.specs.Plain.{plain_exp}
use Rattle.code_of.specs.Expressions.{exp_code, made_by}
use Rattle.code_emitter.specs.Listing.{followed}
use Rattle.code_stat.proofs.Going.{steps_follow}
use Rattle.code_stat.proofs.ranges.write_steps.Goals as goal

pub returns : goal.returns
returns c =
    let t = c.args.register in
    let two : c.in_ok-above.above ≡ t + 2 = omega (arith, c.in_ok-next.ensures, c.in_ok-above.ensures) in
    let third : c.expression.new.emitter ≡ followed c.write_pair.new.emitter (exp_code c.write_pair.new.emitter.constants (plain_exp c.args.step.now) (t + 2) c.write_pair.new.emitter.made 2) (made_by (plain_exp c.args.step.now)) =
    rw two at c.in_ok-expression.ensures in
    steps_follow c.args.emitter.now c.write_pair.new.emitter c.expression.new.emitter (plain_exp c.args.from.now) (plain_exp c.args.limit.now) (plain_exp c.args.step.now) t c.in_ok-write_pair.ensures third

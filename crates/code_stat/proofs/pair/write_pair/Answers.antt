use Rattle.std.proofs.Common.{◌≡◌, ◌+◌}
use Rattle.tree_core.specs.Plain.{plain_exp}
use Rattle.code_of.specs.Expressions.{exp_code, made_by}
use Rattle.code_emitter.specs.Listing.{followed}
use Rattle.code_emitter.proofs.Joining.{then_made}
use Rattle.code_stat.proofs.pair.write_pair.Goals as goal

pub returns : goal.returns
returns c =
    let t = c.args.register in
    let second : c.expression-2.new.emitter ≡ followed c.expression.new.emitter (exp_code c.expression.new.emitter.constants (plain_exp c.args.second.now) (t + 1) c.expression.new.emitter.made 2) (made_by (plain_exp c.args.second.now)) =
    rw c.in_ok-next.ensures at c.in_ok-expression-2.ensures in
    then_made c.args.emitter.now c.expression.new.emitter c.expression-2.new.emitter (exp_code c.args.emitter.now.constants (plain_exp c.args.first.now) t c.args.emitter.now.made 2) (made_by (plain_exp c.args.first.now))
    (λ k j. exp_code k (plain_exp c.args.second.now) (t + 1) j 2) (made_by (plain_exp c.args.second.now)) c.in_ok-expression.ensures second

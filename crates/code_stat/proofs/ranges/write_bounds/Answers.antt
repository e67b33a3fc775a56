use Rattle.std.proofs.Common.{arith, ◌≡◌, ◌+◌}
use Rattle.tree_core.specs.Plain.{plain_exp}
use Rattle.code_of.specs.Expressions.{made_by}
use Rattle.code_of.specs.Parts.{pair_code, default_step}
use Rattle.code_emitter.specs.Listing.{listed}
use Rattle.code_emitter.proofs.Joining.{then_listed}
use Rattle.code_stat.proofs.ranges.write_bounds.Goals as goal

pub returns : goal.returns
returns c =
    let t = c.args.register in
    let two : c.in_ok-step.step ≡ t + 2 = omega (arith, c.in_ok-next.ensures, c.in_ok-step.ensures) in
    let one : c.put_abx.new.self ≡ listed c.write_pair.new.emitter (default_step (t + 2) c.args.line) = rw two at c.in_ok-put_abx.ensures in
    then_listed c.args.emitter.now c.write_pair.new.emitter c.put_abx.new.self (pair_code c.args.emitter.now.constants (plain_exp c.args.from.now) (plain_exp c.args.limit.now) t c.args.emitter.now.made)
    (made_by (plain_exp c.args.from.now) + made_by (plain_exp c.args.limit.now)) (λ k. default_step (t + 2) c.args.line) c.in_ok-write_pair.ensures one

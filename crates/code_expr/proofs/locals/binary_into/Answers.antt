use Rattle.std.proofs.Common.{◌+◌}
use Rattle.tree_core.specs.Plain.{plain_exp}
use Rattle.code_of.specs.Expressions.{made_by, exp_code}
use Rattle.code_of.specs.Operations.{constant_code}
use Rattle.code_of.specs.Operators.{operator_code, number_code}
use Rattle.code_emitter.proofs.ConstantSeats.{operation_written}
use Rattle.code_expr.proofs.locals.binary_into.Goals as goal

pub returns : goal.returns
returns c =
    let k = c.args.emitter.now.constants in
    let e = plain_exp c.args.left.now in
    let d = plain_exp c.args.right.now in
    let first = exp_code k e c.args.free c.args.emitter.now.made 2 in
    let second = exp_code k d (c.args.free + 1) (c.args.emitter.now.made + made_by e) 2 in
    let code = rw c.standing-stays.ensures at c.in_ok-operands.ensures.code in
    let places = rw c.standing-stays.ensures at c.in_ok-operands.ensures.places in
    operation_written c.args.emitter.now c.operands.new.emitter c.apply.new.self k c.args.op e d first second c.args.free c.in_ok-operands.operands
    (λ x n. constant_code c.args.op x n c.args.target c.args.line) (λ x y. operator_code c.args.op x y c.args.target c.args.line) (λ x n. number_code c.args.op x n c.args.target c.args.line)
    code places c.in_ok-apply.ensures

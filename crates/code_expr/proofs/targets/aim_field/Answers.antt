use Rattle.std.proofs.Common.{◌≡◌, ◌+◌}
use Rattle.tree_core.specs.Plain.{plain_exp}
use Rattle.code_of.specs.Expressions.{made_by, exp_code}
use Rattle.code_of.specs.Targets.{waiting_key}
use Rattle.code_emitter.specs.Listing.{followed}
use Rattle.code_expr.specs.Stores.{key_seat, code_if, is_above, made_if}
use Rattle.code_expr.proofs.TargetSeats.{field_aimed}
use Rattle.code_expr.proofs.targets.aim_field.Goals as goal

pub returns : goal.returns
returns c =
    let d = plain_exp c.args.key.now in
    let s = key_seat (waiting_key c.args.emitter.now.constants d) in
    let one = c.in_ok-above.ensures in
    let stands : c.waiting_seat-stands.result ≡ s = c.waiting_seat-stands.ensures in
    let key : c.write_made.new.emitter ≡ followed c.expression.new.emitter (code_if (is_above s) (exp_code c.expression.new.emitter.constants d (c.args.register + 1) c.expression.new.emitter.made 2)) (made_if (is_above s) (made_by d)) =
    rw one at rw stands at rw c.is_above.ensures at c.in_ok-write_made.ensures in
    field_aimed c.args.emitter.now c.expression.new.emitter c.write_made.new.emitter (plain_exp c.args.object.now) d c.args.register c.in_ok-expression.ensures key

use Rattle.std.proofs.Common.{◌≡◌, ◌+◌, arith}
use Rattle.tree_core.specs.Plain.{plain_exp}
use Rattle.code_of.specs.Stores.{is_quiet, field_key}
use Rattle.code_of.specs.StoredValues.{stored_value}
use Rattle.code_expr.specs.Stores.{key_seat, object_at, value_place}
use Rattle.code_expr.proofs.FieldSeats.{field_written}
use Rattle.code_expr.proofs.stores.store_field.Goals as goal

pub returns : goal.returns
returns c =
    let o = plain_exp c.args.object.now in
    let d = plain_exp c.args.key.now in
    let e = plain_exp c.args.value.now in
    let s = key_seat (field_key c.args.emitter.now.constants (is_quiet e) d) in
    let one = c.in_ok-above.ensures in
    let two : c.in_ok-top.top ≡ c.args.free + 2 = omega (arith, c.in_ok-above.ensures, c.in_ok-top.ensures) in
    let stands : c.key_seat-stands.result ≡ s = rw c.is_quiet-quiet.ensures at c.key_seat-stands.ensures in
    let at : c.object_at.result ≡ object_at s (is_quiet e) o = rw c.is_quiet-quiet.ensures at rw stands at c.object_at.ensures in
    let held : c.value_seat-seat.result ≡ value_place (stored_value c.args.emitter.now.constants e) = c.value_seat-seat.ensures in
    let first = c.in_ok-first.ensures.place in
    field_written c.args.emitter.now c.stand.new.emitter c.fill.new.emitter c.args.line o d e c.args.free c.object_at.result at c.in_ok-first.ensures.code
    (rw first at rw two at rw one at rw held at rw stands at c.in_ok-fill.ensures)

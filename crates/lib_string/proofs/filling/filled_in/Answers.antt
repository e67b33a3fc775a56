use Rattle.std.proofs.Common.{rules, ◌≡◌, ◌≤◌, ◌<◌, Err, arith, length, ap}
use Rattle.int_core.specs.Value.{greatest_string}
use Rattle.library_arguments.specs.declared.refusal.Fault.TheVariants.{Refused}
use Rattle.library_arguments.specs.Shapes.{shapes_of}
use Rattle.lib_string.proofs.Fillings.{piece_fails, piece_filled_at, piece_too_long}
use Rattle.lib_string.proofs.filling.filled_in.Goals as goal

pub returns-in_err-append_piece : goal.returns-in_err-append_piece
returns-in_err-append_piece c =
    let same : c.from_residual-in_err-append_piece.result ≡ Err c.in_err-append_piece.field-0.0 = search rules in
    rw same (piece_fails (shapes_of c.args.shapes.now) c.args.format.now c.loop-next.rest.now c.loop-next.text.items c.loop-next.place c.loop-next.invariant.0 c.in-Some.next.piece c.in-Some.next.rest.now c.in-Some.ensures.0
    (Unit {0}) c.in_err-append_piece.field-0.0 c.append_piece.new.text.items c.in_err-append_piece.ensures)

pub returns-in_err-check_length : goal.returns-in_err-check_length
returns-in_err-check_length c =
    let same : c.from_residual-in_err-check_length.result ≡ Err (Refused c.in_err-check_length.field-0.0) = search rules in
    let large : greatest_string < length c.append_piece.new.text.items = omega (arith, c.in_err-check_length.ensures.0, ap length c.deref.ensures.value) in
    rw same (piece_too_long (shapes_of c.args.shapes.now) c.args.format.now c.loop-next.rest.now c.loop-next.text.items c.loop-next.place c.loop-next.invariant.0 c.in-Some.next.piece c.in-Some.next.rest.now c.in-Some.ensures.0
    c.in_err-check_length.field-0.0 c.append_piece.new.text.items c.in_ok-append_piece.ensures large c.in_err-check_length.ensures.1)

pub loop-next-preserved : goal.loop-next-preserved
loop-next-preserved c =
    let i = c.loop-next.invariant in
    let shorter = c.in-Some.ensures.1 in
    let place = c.next_place-place.ensures in
    let short : length c.append_piece.new.text.items ≤ greatest_string = omega (arith, c.in_ok-check_length.ensures, ap length c.deref.ensures.value) in (
      piece_filled_at (shapes_of c.args.shapes.now) c.args.format.now c.loop-next.rest.now c.loop-next.text.items c.loop-next.place i.0 c.in-Some.next.piece c.in-Some.next.rest.now c.in-Some.ensures.0
          c.append_piece.new.text.items c.next_place-place.result place.value c.in_ok-append_piece.ensures short,
      omega (arith, i.1, place.least),
      omega (arith, i.2, place.most, shorter),
    )

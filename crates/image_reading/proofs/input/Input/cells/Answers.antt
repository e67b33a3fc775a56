use Rattle.std.proofs.Common.{◌≡◌, ◌<◌, [], ◌∷◌, map, Err, arith, rules}
use Rattle.image_bytes.specs.Bytes.{reference}
use Rattle.image_records.specs.Views.{sort}
use Rattle.image_bytes.specs.Format.{times}
use Rattle.image_reading.specs.Says.{numbers_of, itself}
use Rattle.image_reading.proofs.Fronts.{failed, one_more_number}
use Rattle.image_reading.proofs.input.Input.cells.Goals as goal

pub loop-preserved : goal.loop-preserved
loop-preserved c =
    let lt : c.loop.counter < c.args.count = omega arith in
    one_more_number (reference (map sort c.args.context.now.sorts.now) (3 ∷ [])) c.args.count c.loop.counter _ _ _ _ _ _ _ _ lt c.in_ok-cell.ensures.reads c.in_ok-push.ensures.items c.loop.invariant

pub returns-in_err-cell : goal.returns-in_err-cell
unfolding times
returns-in_err-cell c =
    let is : c.from_residual.result ≡ Err c.in_err-cell.field-0.0 = search rules in
    let lt : c.loop.counter < c.args.count = omega arith in
    record { reads = rw is (failed (reference (map sort c.args.context.now.sorts.now) (3 ∷ [])) itself (numbers_of) c.args.count c.loop.counter _ _ _ _ _ _ _ lt c.in_err-cell.ensures.reads c.loop.invariant) }

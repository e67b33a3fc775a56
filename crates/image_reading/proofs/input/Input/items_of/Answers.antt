use Rattle.std.proofs.Common.{◌≡◌, ◌<◌, Err, arith, rules}
use Rattle.image_bytes.specs.Bytes.{item_format}
use Rattle.image_reading.specs.Says.{reader_in}
use Rattle.image_records.specs.Views.{item}
use Rattle.image_bytes.specs.Format.{times}
use Rattle.image_reading.specs.Says.{items_of}
use Rattle.image_reading.proofs.Fronts.{failed, one_more}
use Rattle.image_reading.proofs.input.Input.items_of.Goals as goal

pub loop-preserved : goal.loop-preserved
loop-preserved c =
    let lt : c.loop.counter < c.args.count = omega arith in
    one_more (item_format (reader_in c.args.context.now)) item c.args.count c.loop.counter _ _ _ _ _ _ _ _ lt c.in_ok-item.ensures.reads c.in_ok-push.ensures.items c.loop.invariant

pub returns-in_err-item : goal.returns-in_err-item
unfolding times
returns-in_err-item c =
    let is : c.from_residual.result ≡ Err c.in_err-item.field-0.0 = search rules in
    let lt : c.loop.counter < c.args.count = omega arith in
    record { reads = rw is (failed (item_format (reader_in c.args.context.now)) item (items_of item) c.args.count c.loop.counter _ _ _ _ _ _ _ lt c.in_err-item.ensures.reads c.loop.invariant) }

use Rattle.std.proofs.Common.{◌≡◌, Err, arith, rules}
use Rattle.image_bytes.specs.Bytes.{frame_format}
use Rattle.image_reading.specs.Says.{reader_in}
use Rattle.image_records.specs.Views.{frame}
use Rattle.image_bytes.specs.Format.{times}
use Rattle.image_reading.specs.Says.{items_of}
use Rattle.image_reading.proofs.Fronts.{failed, one_more}
use Rattle.image_reading.proofs.input.Input.frames_of.Goals as goal

pub loop-preserved : goal.loop-preserved
loop-preserved c =
    one_more (frame_format (reader_in c.args.context.now)) frame c.args.count c.loop.counter _ _ _ _ _ _ _ _ (omega arith) c.in_ok-frame.ensures.reads c.in_ok-push.ensures.items c.loop.invariant

pub returns-in_err-frame : goal.returns-in_err-frame
unfolding times
returns-in_err-frame c =
    let is : c.from_residual.result ≡ Err c.in_err-frame.field-0.0 = search rules in
    record { reads = rw is (failed (frame_format (reader_in c.args.context.now)) frame (items_of frame) c.args.count c.loop.counter _ _ _ _ _ _ _ (omega arith) c.in_err-frame.ensures.reads c.loop.invariant) }

use Rattle.std.proofs.Common.{◌≡◌, ◌<◌, Err, arith, rules}
use Rattle.image_bytes.specs.Format.{word}
use Rattle.image_bytes.specs.Format.{times}
use Rattle.image_reading.specs.Says.{numbers_of, itself}
use Rattle.image_reading.proofs.Fronts.{failed, one_more_number}
use Rattle.image_reading.proofs.input.Input.words_of.Goals as goal

pub loop-preserved : goal.loop-preserved
loop-preserved c =
    let lt : c.loop.counter < c.args.count = omega arith in
    one_more_number (word) c.args.count c.loop.counter _ _ _ _ _ _ _ _ lt c.in_ok-word.ensures.reads c.in_ok-push.ensures.items c.loop.invariant

pub returns-in_err-word : goal.returns-in_err-word
unfolding times
returns-in_err-word c =
    let is : c.from_residual.result ≡ Err c.in_err-word.field-0.0 = search rules in
    let lt : c.loop.counter < c.args.count = omega arith in
    record { reads = rw is (failed (word) itself (numbers_of) c.args.count c.loop.counter _ _ _ _ _ _ _ lt c.in_err-word.ensures.reads c.loop.invariant) }

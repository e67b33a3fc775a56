use Rattle.std.proofs.Common.{◌<◌, get_or}
use Rattle.int_core.proofs.NumeralLemmas.{wrapped-more, digit-below}
use Rattle.int_core.proofs.numeral.wrapped_value.Goals as goal

pub loop-digit-preserved : goal.loop-digit-preserved
loop-digit-preserved c =
    let digits = c.args.digits.now in
    let i = c.loop-digit.digit-index in
    let inside : i < _ = c.loop-digit-test.true in
    let below = digit-below 16 (get_or digits i 0) (c.requires i 0 inside) in
    wrapped-more digits i _ _ inside (c.digit_value.ensures.value below) c.loop-digit.invariant

use Rattle.std.proofs.Common.{◌<◌, get_or, arith}
use Rattle.int_core.proofs.NumeralLemmas.{digit-below}
use Rattle.integer_functions.proofs.DigitSums.{wrapped-more}
use Rattle.integer_functions.proofs.digits.wrapped_value.Goals as goal

pub loop-digit-preserved : goal.loop-digit-preserved
loop-digit-preserved c =
    let digits = c.args.digits.now in
    let i = c.loop-digit.digit-index in
    let inside : i < _ = c.loop-digit-test.true in
    let below = digit-below c.args.base (get_or digits i 0) (c.requires.digits i 0 inside) in
    rw c.from.ensures (wrapped-more c.args.base digits i _ _ inside (c.digit_value.ensures.value (omega arith)) c.loop-digit.invariant)

use Rattle.std.proofs.Common.{◌<◌, get_or, arith}
use Rattle.std.specs.Char.{digit_value}
use Rattle.int_core.proofs.NumeralLemmas.{capped-more, digit-below}
use Rattle.int_core.proofs.numeral.capped_value.Goals as goal

pub loop-digit-preserved : goal.loop-digit-preserved
loop-digit-preserved c =
    let digits = c.args.digits.now in
    let i = c.loop-digit.digit-index in
    let inside : i < _ = c.loop-digit-test.true in
    let below : digit_value (get_or digits i 0) < 16 = omega (arith, digit-below 10 (get_or digits i 0) (c.requires i 0 inside)) in
    capped-more digits i _ _ _ _ inside (c.digit_value.ensures.value below) c.loop-digit.invariant c.saturating_mul.ensures c.saturating_add-value.ensures

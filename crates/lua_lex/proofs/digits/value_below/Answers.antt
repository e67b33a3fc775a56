-- What does not fit 64 bits is not below the limit.
use Rattle.std.proofs.Common.{◌+◌, ◌*◌, ◌^◌, ◌<◌, ap, arith}
use Rattle.std.proofs.lemmas.Int.Digits.{digits_value_more}
use Rattle.std.proofs.lemmas.Str.Parse.{digits_value-take-le}
use Rattle.lua_lex.proofs.digits.value_below.Goals as goal

pub returns-in_err-checked_mul-clause-none : goal.returns-in_err-checked_mul-clause-none
returns-in_err-checked_mul-clause-none c =
    let digits = c.args.digits.now in let i = c.loop-byte.byte-index in
    let more = digits_value_more c.args.radix digits i c.loop-byte-test.true in
    let part = digits_value-take-le c.args.radix digits (i + 1) c.requires in
    let over : (c.loop-byte.value * c.args.radix < 2 ^ 64) → ⊥ = c.in_err-checked_mul.ensures in
    let product = ap (λ v. v * c.args.radix) c.loop-byte.invariant in
    rw c.from_residual.ensures (omega (arith, more, part, over, product, c.ranges.limit.fits))

pub returns-in_err-value-clause-none : goal.returns-in_err-value-clause-none
returns-in_err-value-clause-none c =
    let digits = c.args.digits.now in let i = c.loop-byte.byte-index in
    let more = digits_value_more c.args.radix digits i c.loop-byte-test.true in
    let part = digits_value-take-le c.args.radix digits (i + 1) c.requires in
    let product = ap (λ v. v * c.args.radix) c.loop-byte.invariant in
    rw c.from_residual-in_err-value.ensures (omega (arith, more, part, c.in_ok-checked_mul.ensures, c.in_err-value.ensures, c.digit_value.ensures.value, c.from.ensures, product, c.ranges.limit.fits))

pub loop-byte-preserved : goal.loop-byte-preserved
loop-byte-preserved c =
    let more = digits_value_more c.args.radix c.args.digits.now c.loop-byte.byte-index c.loop-byte-test.true in
    let product = ap (λ v. v * c.args.radix) c.loop-byte.invariant in
    omega (arith, more, product, c.in_ok-checked_mul.ensures, c.in_ok-value.ensures, c.digit_value.ensures.value, c.from.ensures)

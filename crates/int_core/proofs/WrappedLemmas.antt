-- What wrapping leaves of naturals, and what shifts make of the bits.
use Rattle.std.proofs.Common.{◌≡◌, ℕ, ◌*◌, ◌/◌, ◌%◌, ◌^◌, ◌<◌, ◌≤◌, min, ◌∙◌, sym, ap, refl, arith}
use Rattle.std.proofs.Math.Nat.{mod-eq_of_lt}
use Rattle.std.proofs.lemmas.Int.{int_wrap-mul_right, wrapping_mul-bits, to_z-of_z}
use Rattle.std.proofs.lemmas.Nat.{pow_below, shr_le}
use Rattle.std.proofs.Math.IntN.{*ℤ-zero}
use Rattle.std.specs.Prelude.{ℤ, pos, negsuc, ◌*ℤ◌}
use Rattle.std.specs.Int.{w64, cast_signed, cast_unsigned, int_wrap}
use Rattle.std.specs.Int.RustNames.{FitsSigned}
use Rattle.int_core.specs.Arithmetic.{moved_up, moved_down}

pub wrapped-pos : (n : ℕ) → int_wrap w64 (pos n) ≡ cast_signed w64 (n % 2 ^ 64)
unfolding int_wrap
wrapped-pos n = refl

pub wrapped-pos_below : (n : ℕ) → n < 2 ^ 64 → int_wrap w64 (pos n) ≡ cast_signed w64 n
wrapped-pos_below n h = wrapped-pos n ∙ ap (cast_signed w64) (mod-eq_of_lt h)

pub bits-below : (a : ℤ) → FitsSigned w64 a → cast_unsigned w64 a < 2 ^ 64
bits-below (pos n) fits = omega (arith, fits.sfits)
bits-below (negsuc n) fits = omega arith

-- a shift by fewer than 64 places multiplies the bits
pub moved_up-below : (a : ℤ) (n : ℕ) → FitsSigned w64 a → n < 64 → cast_signed w64 ((cast_unsigned w64 a * 2 ^ n) % 2 ^ 64) ≡ moved_up a n
moved_up-below a n fits h =
    let power : 2 ^ n < 2 ^ 64 = pow_below n 64 h in
    let bits : cast_unsigned w64 a < 2 ^ 64 = bits-below a fits in
    let small : min n 64 ≡ n = omega arith in
    rw small
    (wrapping_mul-bits w64 (cast_unsigned w64 a) (2 ^ n) bits power
    ∙ ap (λ b. int_wrap w64 (b *ℤ cast_signed w64 (2 ^ n))) (to_z-of_z w64 a fits)
    ∙ ap (λ b. int_wrap w64 (a *ℤ b)) (sym (wrapped-pos_below (2 ^ n) power))
    ∙ int_wrap-mul_right w64 a (pos (2 ^ n)))

pub moved_up-beyond : (a : ℤ) (n : ℕ) → 64 ≤ n → pos 0 ≡ moved_up a n
moved_up-beyond a n h =
    let large : min n 64 ≡ 64 = omega arith in
    rw large
    (sym (wrapped-pos 0)
    ∙ ap (int_wrap w64) (sym (*ℤ-zero a))
    ∙ ap (λ b. int_wrap w64 (a *ℤ b)) (sym (wrapped-pos (2 ^ 64)))
    ∙ int_wrap-mul_right w64 a (pos (2 ^ 64)))

pub moved_down-below : (a : ℤ) (n : ℕ) → FitsSigned w64 a → n < 64 → cast_signed w64 (cast_unsigned w64 a / 2 ^ n) ≡ moved_down a n
moved_down-below a n fits h =
    let bits : cast_unsigned w64 a < 2 ^ 64 = bits-below a fits in
    let small : min n 64 ≡ n = omega arith in
    let below : cast_unsigned w64 a / 2 ^ n < 2 ^ 64 = omega (arith, shr_le (cast_unsigned w64 a) n) in
    rw small (sym (wrapped-pos_below (cast_unsigned w64 a / 2 ^ n) below))

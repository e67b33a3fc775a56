-- The floor of a quotient and what is left beside it, by the signs.
use Rattle.std.proofs.Common.{◌≡◌, ◌≢◌, ℕ, zero, suc, ◌+◌, ◌-◌, ◌*◌, ◌/◌, ◌%◌, ◌^◌, ◌<◌, ◌≤◌, true, false, ◌∙◌, sym, ap, refl, arith, inl, inr}
use Rattle.std.proofs.Math.IntN.{+ℤ_idl}
use Rattle.std.proofs.Math.Nat.{div-le_self}
use Rattle.std.proofs.lemmas.Bool.{cases_lt}
use Rattle.std.proofs.lemmas.Bool.Decides.{nat_tests}
use Rattle.std.proofs.lemmas.Int.{ints, int_wrap-mul_right, int_wrap-sub_right, int_wrap_fits}
use Rattle.std.proofs.lemmas.Nat.{mod_below, div-add-mod', div-mul-add, mod-mul-add}
use Rattle.std.specs.Prelude.{ℤ, pos, negsuc, ◌-ℤ◌, ◌*ℤ◌, neg_ℤ, unsigned_abs, int_lt}
use Rattle.std.specs.Int.{w64, cast_signed, int_wrap, div_ceil}
use Rattle.std.specs.Int.RustNames.{FitsSigned}
use Rattle.int_core.specs.Arithmetic.{sub, mul, neg, floor_quotient, floor_div, floor_mod}
use Rattle.int_core.proofs.WrappedLemmas.{wrapped-pos_below}
use mathlib.Core.Bool.{beq}

pub div_ceil-suc : (n m : ℕ) → 0 < m → div_ceil (suc n) m ≡ suc (n / m)
div_ceil-suc n m h =
    let q = n / m in
    let r = n % m in
    elim (cases_lt (suc r) m) [
      | inl below ↦
          let whole : suc n ≡ q * m + suc r = omega (arith, div-add-mod' n m) in
          rw whole (omega (arith, div-mul-add q m (suc r) below, mod-mul-add q m (suc r) below))
      | inr above ↦
          let whole : suc n ≡ suc q * m + 0 = omega (arith, div-add-mod' n m) in
          rw whole (omega (arith, div-mul-add (suc q) m 0 h, mod-mul-add (suc q) m 0 h))
    ]

pub wrapped-neg : (z : ℤ) → int_wrap w64 (neg_ℤ (int_wrap w64 z)) ≡ int_wrap w64 (neg_ℤ z)
wrapped-neg z =
    ap (int_wrap w64) (sym (+ℤ_idl (neg_ℤ (int_wrap w64 z))))
    ∙ int_wrap-sub_right w64 (pos 0) z
    ∙ ap (int_wrap w64) (+ℤ_idl (neg_ℤ z))

pub floor_div-same_sign : (a b : ℤ) → FitsSigned w64 a → b ≢ pos 0 → beq (int_lt a (pos 0)) (int_lt b (pos 0)) ≡ true → cast_signed w64 (unsigned_abs a / unsigned_abs b) ≡ floor_div a b
floor_div-same_sign (pos a) (pos b) fits nonzero same =
    let below : a / b < 2 ^ 64 = omega (arith, div-le_self a b, fits.sfits) in
    sym (wrapped-pos_below (a / b) below)
floor_div-same_sign (pos a) (negsuc b) fits nonzero same = absurd (grind (arith, nat_tests))
floor_div-same_sign (negsuc a) (pos b) fits nonzero same = absurd (grind (arith, nat_tests))
floor_div-same_sign (negsuc a) (negsuc b) fits nonzero same =
    let below : suc a / suc b < 2 ^ 64 = omega (arith, div-le_self (suc a) (suc b), fits.sfits) in
    sym (wrapped-pos_below (suc a / suc b) below)

pos_nonzero : (b : ℕ) → pos b ≢ pos 0 → 0 < b
pos_nonzero zero h = absurd (h refl)
pos_nonzero (suc b) h = omega arith

-- minus the quotient of the sizes, rounded up
minus_ceil : (n m : ℕ) → 0 < m → suc n < 2 ^ 64 → neg (cast_signed w64 (div_ceil (suc n) m)) ≡ int_wrap w64 (negsuc (n / m))
minus_ceil n m h small =
    let below : suc (n / m) < 2 ^ 64 = omega (arith, div-le_self n m) in
    rw (div_ceil-suc n m h)
    (ap (λ z. int_wrap w64 (neg_ℤ z)) (sym (wrapped-pos_below (suc (n / m)) below))
    ∙ wrapped-neg (pos (suc (n / m))))

pub floor_div-other_sign : (a b : ℤ) → FitsSigned w64 a → b ≢ pos 0 → beq (int_lt a (pos 0)) (int_lt b (pos 0)) ≡ false → neg (cast_signed w64 (div_ceil (unsigned_abs a) (unsigned_abs b))) ≡ floor_div a b
floor_div-other_sign (pos a) (pos b) fits nonzero other = absurd (grind (arith, nat_tests))
floor_div-other_sign (pos zero) (negsuc b) fits nonzero other =
    let none : div_ceil 0 (suc b) ≡ 0 = omega arith in
    let floor : 0 / suc b ≡ 0 = omega arith in
    rw (none, floor) refl
floor_div-other_sign (pos (suc a)) (negsuc b) fits nonzero other = minus_ceil a (suc b) (omega arith) (omega (arith, fits.sfits))
floor_div-other_sign (negsuc a) (pos b) fits nonzero other = minus_ceil a b (pos_nonzero b nonzero) (omega (arith, fits.sfits))
floor_div-other_sign (negsuc a) (negsuc b) fits nonzero other = absurd (grind (arith, nat_tests))

pub floor_mod-pos-pos : (a b : ℕ) → 0 < b → floor_mod (pos a) (pos b) ≡ pos (a % b)
floor_mod-pos-pos a b h = omega (arith, ints)

pub floor_mod-negsuc-pos : (a b : ℕ) → 0 < b → floor_mod (negsuc a) (pos b) ≡ pos (b - 1 - a % b)
floor_mod-negsuc-pos a b h = omega (arith, ints)

pub floor_mod-negsuc : (a : ℤ) (b : ℕ) → floor_mod a (negsuc b) ≡ neg_ℤ (floor_mod (neg_ℤ a) (pos (suc b)))
floor_mod-negsuc a b = omega (arith, ints)

-- so the quotient is the floor: over a positive divisor what is left lies from 0 up to the divisor, and over a negative one from 0 down to it
pub floor_mod-pos : (a : ℤ) (b : ℕ) → 0 < b → (r : ℕ) × (r < b) × (floor_mod a (pos b) ≡ pos r)
floor_mod-pos (pos a) b h = (a % b, mod_below a b h, floor_mod-pos-pos a b h)
floor_mod-pos (negsuc a) b h = (b - 1 - a % b, omega arith, floor_mod-negsuc-pos a b h)

pub floor_mod-neg : (a : ℤ) (b : ℕ) → (r : ℕ) × (r < suc b) × (floor_mod a (negsuc b) ≡ neg_ℤ (pos r))
floor_mod-neg a b =
    let left = floor_mod-pos (neg_ℤ a) (suc b) (omega arith) in
    (left.0, left.1, floor_mod-negsuc a b ∙ ap neg_ℤ left.2)

fits_neg : (r : ℕ) → r ≤ 2 ^ 63 → FitsSigned w64 (neg_ℤ (pos r))
fits_neg zero h = record { sfits = omega arith }
fits_neg (suc r) h = record { sfits = omega arith }

floor_mod_fits : (a b : ℤ) → b ≢ pos 0 → FitsSigned w64 b → FitsSigned w64 (floor_mod a b)
floor_mod_fits a (pos b) nonzero fits =
    let left = floor_mod-pos a b (pos_nonzero b nonzero) in
    rw left.2 (record { sfits = omega (arith, left.1, fits.sfits) })
floor_mod_fits a (negsuc b) nonzero fits =
    let left = floor_mod-neg a b in
    rw left.2 (fits_neg left.0 (omega (arith, left.1, fits.sfits)))

-- by wrapping steps the same comes, since it fits
pub floor_mod-steps : (a b : ℤ) → b ≢ pos 0 → FitsSigned w64 b → sub a (mul b (floor_div a b)) ≡ floor_mod a b
floor_mod-steps a b nonzero fits =
    ap (λ z. int_wrap w64 (a -ℤ z)) (int_wrap-mul_right w64 b (floor_quotient a b))
    ∙ int_wrap-sub_right w64 a (b *ℤ floor_quotient a b)
    ∙ int_wrap_fits w64 (floor_mod a b) (floor_mod_fits a b nonzero fits)

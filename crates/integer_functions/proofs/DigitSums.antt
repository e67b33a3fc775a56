-- What digits spell in a base, a digit at a time.
use Rattle.std.proofs.Common.{◌≡◌, ℕ, ℤ, Bool, Option, Some, None, ap, ◌+◌, ◌*◌, ◌%◌, ◌^◌, ◌<◌, List, length, take, get_or, ◌∙◌, arith}
use Rattle.std.proofs.lemmas.Nat.{mul-mod_first}
use Rattle.std.proofs.lemmas.List.Sums.{fold_more}
use Rattle.std.specs.Char.{digit_value}
use Rattle.int_core.specs.Arithmetic.{wrapped}
use Rattle.int_core.specs.Numeral.{digits_value, digits_of, signed}
use Rattle.library_rows.specs.Strings.{unsigned_in}
use Rattle.int_core.proofs.NumeralLemmas.{digits_value-more}

sum_step : (p q d : ℕ) → p % 2 ^ 64 ≡ q % 2 ^ 64 → (p % 2 ^ 64 + d) % 2 ^ 64 ≡ (q + d) % 2 ^ 64
sum_step p q d e = omega arith

wrapped_step : (base v n d : ℕ) → n ≡ v % 2 ^ 64 → ((n * base) % 2 ^ 64 + d) % 2 ^ 64 ≡ (v * base + d) % 2 ^ 64
wrapped_step base v n d e = sum_step (n * base) (v * base) d (rw e (mul-mod_first v base (2 ^ 64)))

pub wrapped-more : (base : ℕ) (digits : List ℕ) (i n d : ℕ) → i < length digits → d ≡ digit_value (get_or digits i 0) → n ≡ digits_value base (take i digits) % 2 ^ 64 → ((n * base) % 2 ^ 64 + d) % 2 ^ 64 ≡ digits_value base (take (i + 1) digits) % 2 ^ 64
wrapped-more base digits i n d h digit e =
    rw (digits_value-more base digits i h, ← digit) (wrapped_step base (digits_value base (take i digits)) n d e)

pub unsigned_known : (base : ℕ) (negative : Bool) (text digits : List ℕ) (n : ℤ) → Some digits ≡ digits_of base text → n ≡ wrapped (signed negative (digits_value base digits)) → Some n ≡ unsigned_in base negative text
unsigned_known base negative text digits n found is =
    ap (λ z. Some z) is ∙ ap (λ o. elim o as (λ _. Option ℤ) [ None ↦ None | Some ds ↦ Some (wrapped (signed negative (digits_value base ds))) ]) found

-- The number that digits spell.
use Rattle.std.proofs.Common.{◌≡◌, ℕ, ◌^◌, ◌<◌, ◌≤◌, length, true, false, Bool, List, [], ◌∷◌, Option, Some, None, cond, refl, sym, ap, subst, arith, drop, ◌&&◌}
use Rattle.std.specs.Prelude.{nat_eq, nat_le, nat_lt}
use Rattle.std.specs.Char.{digit_value}
use Rattle.std.specs.Bool.{Decides}
use Rattle.std.specs.Str.Parse.{AllDigits, IsNumeral, digits_value, without_leading_plus}
use Rattle.std.proofs.lemmas.Int.Digits.{digits_value-lt}
use Rattle.std.proofs.Math.Nat.{pow-le-pow_right}
use Rattle.std.proofs.lemmas.Bool.Decides.{Decides-eqb, Decides-ltb}
use Rattle.std.proofs.lemmas.Bool.{leb-true, le-leb}
use Rattle.command_words.specs.Words.{IsNumber}
use Rattle.command_words.specs.Reading.{all_digits, number_in}

both : (t u : Bool) → (t && u) ≡ true → (t ≡ true) × (u ≡ true)
both true u e = (refl, e)
both false u e = absurd (cc)

pub are_digits : (text : List ℕ) → Decides (all_digits text) (AllDigits 10 text)
are_digits [] = (λ e. tt, λ h. refl)
are_digits (c ∷ text) = (
  (λ e. let parts = both (nat_lt (digit_value c) 10) (all_digits text) e in ((Decides-ltb (digit_value c) 10).0 parts.0, (are_digits text).0 parts.1)),
  (λ h. let first = (Decides-ltb (digit_value c) 10).1 h.0 in let others = (are_digits text).1 h.1 in rw (first, others) refl),
)

pub number_is : (text : List ℕ) (number : ℕ) → IsNumber text number → number_in text ≡ Some number
number_is text number h =
    let short : nat_le (length text) 15 ≡ true = le-leb (length text) 15 h.short in
    let digits : all_digits text ≡ true = (are_digits text).1 h.digits.1 in
    let some : 0 < digits_value 10 text = subst (λ n. 0 < n) h.value h.positive in
    let positive : nat_lt 0 (digits_value 10 text) ≡ true = (Decides-ltb 0 (digits_value 10 text)).1 some in
    rw (short, digits, positive) (ap Some (sym h.value))

some_bytes : (text : List ℕ) → 0 < digits_value 10 text → 0 < length text
some_bytes [] h = absurd (omega (arith, h))
some_bytes (d ∷ text) h = omega arith

by_tests : (text : List ℕ) (number : ℕ) (s d p : Bool) → nat_le (length text) 15 ≡ s → all_digits text ≡ d → nat_lt 0 (digits_value 10 text) ≡ p → cond (s && d && p) (Some (digits_value 10 text)) None ≡ Some number → IsNumber text number
by_tests text number true true true short digits positive e =
    let some : 0 < digits_value 10 text = (Decides-ltb 0 (digits_value 10 text)).0 positive in
    let value : number ≡ digits_value 10 text = cc in
    record {
      short = leb-true (length text) 15 short;
      digits = (some_bytes text some, (are_digits text).0 digits);
      value = value;
      positive = subst (λ n. 0 < n) (sym value) some;
    }
by_tests text number true true false short digits positive e = absurd (cc)
by_tests text number true false p short digits positive e = absurd (cc)
by_tests text number false d p short digits positive e = absurd (cc)

pub is_number : (text : List ℕ) (number : ℕ) → number_in text ≡ Some number → IsNumber text number
is_number text number e = by_tests text number (nat_le (length text) 15) (all_digits text) (nat_lt 0 (digits_value 10 text)) refl refl refl e

-- a text whose digits are no number of 64 bits is no number

digit_first : (d : ℕ) (text : List ℕ) → digit_value d < 10 → without_leading_plus (d ∷ text) ≡ d ∷ text
digit_first d text h = by (nat_eq d 43) refl
  where
    by : (t : Bool) → nat_eq d 43 ≡ t → drop (cond t 1 0) (d ∷ text) ≡ d ∷ text
    by true e = let small : digit_value 43 < 10 = subst (λ c. digit_value c < 10) ((Decides-eqb d 43).0 e) h in absurd (omega (arith, small))
    by false e = refl

no_plus : (text : List ℕ) → AllDigits 10 text → without_leading_plus text ≡ text
no_plus [] h = refl
no_plus (d ∷ text) h = digit_first d text h.0

small_number : (text : List ℕ) → AllDigits 10 text → length text ≤ 15 → digits_value 10 text < 18446744073709551616
small_number text h short =
    let below : digits_value 10 text < 10 ^ length text = digits_value-lt 10 text h in
    let ten : 0 < 10 = omega arith in
    let most : 10 ^ length text ≤ 10 ^ 15 = pow-le-pow_right ten short in
    omega (arith, below, most)

pub no_number : (text : List ℕ) → (IsNumeral 10 (without_leading_plus text) × (digits_value 10 (without_leading_plus text) < 18446744073709551616) → ⊥) → None ≡ number_in text
no_number text h = by (number_in text) refl
  where
    by : (m : Option ℕ) → number_in text ≡ m → None ≡ number_in text
    by None e = sym e
    by (Some n) e =
        let b : IsNumber text n = is_number text n e in
        let same : without_leading_plus text ≡ text = no_plus text b.digits.1 in
        absurd (h (subst (λ t. IsNumeral 10 t × (digits_value 10 t < 18446744073709551616)) (sym same) (b.digits, small_number text b.digits.1 b.short)))

-- Numbers of at most two digits, and widths.
use Rattle.std.proofs.Common.{◌≡◌, ℕ, zero, suc, ◌+◌, ◌-◌, ◌*◌, ◌≤◌, ◌<◌, Bool, true, false, List, [], ◌∷◌, length, drop, take, Option, Some, None, refl, sym, ap, ◌∙◌, arith}
use Rattle.std.specs.Prelude.{cond, min}
use Rattle.std.specs.Char.{digit_value}
use Rattle.std.specs.List.{prefix_len}
use Rattle.std.proofs.lemmas.Bool.Decides.{nat_tests}
use Rattle.int_core.specs.Numeral.{digits_value}
use Rattle.library_rows.specs.Formats.{Read, is_decimal, number_at, number_len, with_precision, with_width}
use Rattle.lib_string.specs.Pieces.{first_digit}

digit_is : (c : ℕ) → is_decimal c ≡ true → digit_value c ≡ c - 48
digit_is c h = grind (arith, nat_tests)

abbrev by_digit : ℕ → Bool → Option ℕ
by_digit c t = elim t as (λ _. Option ℕ) [ true ↦ Some (c - 48) | false ↦ None ]

no_digits : (text : List ℕ) → first_digit text ≡ None → prefix_len is_decimal text ≡ 0
no_digits [] e = refl
no_digits (c ∷ text) e = by (is_decimal c) refl e
  where
    by : (t : Bool) → is_decimal c ≡ t → by_digit c t ≡ None → prefix_len is_decimal (c ∷ text) ≡ 0
    by true is e = absurd (cc)
    by false is e = ap (λ p. cond p (1 + prefix_len is_decimal text) 0) is

-- a digit at the front
digit_first : (c a : ℕ) (text : List ℕ) → first_digit (c ∷ text) ≡ Some a → (is_decimal c ≡ true) × (a ≡ c - 48)
digit_first c a text e = by (is_decimal c) refl e
  where
    by : (t : Bool) → is_decimal c ≡ t → by_digit c t ≡ Some a → (is_decimal c ≡ true) × (a ≡ c - 48)
    by true is e = (is, cc)
    by false is e = absurd (cc)

pub record IsNumber (text : List ℕ) (value len : ℕ) : Type 0 where
  pub value_is : value ≡ number_at text
  pub len_is : len ≡ number_len text
  pub inside : len ≤ length text

pub no_number : (text : List ℕ) → first_digit text ≡ None → IsNumber text 0 0
no_number text e =
    let len : 0 ≡ number_len text = ap (min 2) (sym (no_digits text e)) in
    record { value_is = ap (λ n. digits_value 10 (take n text)) len; len_is = len; inside = omega arith }

pub one_digit : (text : List ℕ) (a : ℕ) → first_digit text ≡ Some a → first_digit (drop 1 text) ≡ None → IsNumber text a 1
one_digit [] a e none = absurd (cc)
one_digit (c ∷ text) a e none =
    let is = digit_first c a text e in
    let len : 1 ≡ number_len (c ∷ text) = sym (ap (λ p. min 2 (cond p (1 + prefix_len is_decimal text) 0)) is.0 ∙ ap (λ n. min 2 (1 + n)) (no_digits text none)) in
    let value : a ≡ digits_value 10 (c ∷ []) = omega (arith, digit_is c is.0, is.1) in
    record { value_is = value ∙ ap (λ n. digits_value 10 (take n (c ∷ text))) len; len_is = len; inside = omega arith }

pub two_digits : (text : List ℕ) (a b : ℕ) → first_digit text ≡ Some a → first_digit (drop 1 text) ≡ Some b → IsNumber text (a * 10 + b) 2
two_digits [] a b e f = absurd (cc)
two_digits (c ∷ []) a b e f = absurd (cc)
two_digits (c ∷ d ∷ text) a b e f =
    let is = digit_first c a (d ∷ text) e in
    let and = digit_first d b text f in
    let two : min 2 (1 + (1 + prefix_len is_decimal text)) ≡ 2 = omega arith in
    let len : 2 ≡ number_len (c ∷ d ∷ text) =
    sym (ap (λ p. min 2 (cond p (1 + prefix_len is_decimal (d ∷ text)) 0)) is.0 ∙ ap (λ p. min 2 (1 + cond p (1 + prefix_len is_decimal text) 0)) and.0 ∙ two) in
    let value : a * 10 + b ≡ digits_value 10 (c ∷ d ∷ []) = omega (arith, digit_is c is.0, is.1, digit_is d and.0, and.1) in
    record { value_is = value ∙ ap (λ n. digits_value 10 (take n (c ∷ d ∷ text))) len; len_is = len; inside = omega arith }

abbrev by_len : List ℕ → ℕ → List ℕ → ℕ → Option Read
by_len flags size text len = elim len as (λ _. Option Read) [ zero ↦ with_precision flags None size text | suc n ↦ with_precision flags (Some (number_at text)) (size + suc n) (drop (suc n) text) ]

pub without_width : (flags : List ℕ) (size : ℕ) (text : List ℕ) (len : ℕ) → len ≡ number_len text → len ≡ 0 → with_width flags size text ≡ with_precision flags None size text
without_width flags size text len is none = ap (by_len flags size text) (sym is ∙ none)

pub width_there : (flags : List ℕ) (size : ℕ) (text : List ℕ) (len : ℕ) → len ≡ number_len text → ¬ (len ≡ 0) → with_width flags size text ≡ with_precision flags (Some (number_at text)) (size + len) (drop len text)
width_there flags size text zero is some = absurd (some refl)
width_there flags size text (suc n) is some = ap (by_len flags size text) (sym is)

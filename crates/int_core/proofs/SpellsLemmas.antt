-- The computed integer of a text is the one that the text spells.
use Rattle.std.proofs.Common.{◌≡◌, ℕ, ◌+◌, ◌≤◌, ◌⊎◌, Bool, true, false, ◌&&◌, nat_lt, eqb, List, [], ◌∷◌, ◌++◌, length, take, drop, refl, sym, ◌∙◌, ap, subst, inl, inr, arith, append_assoc}
use Rattle.std.proofs.Math.Seq.{take-append_seam, drop-append_seam}
use Rattle.std.proofs.lemmas.Bool.Decides.{nat_tests, eqb_tells}
use Rattle.std.proofs.lemmas.List.{take-append-drop}
use Rattle.std.proofs.lemmas.List.Folds.{length-prefix_len}
use Rattle.std.proofs.lemmas.List.Sums.{AllPass-from_list_all, list_all-from_AllPass}
use Rattle.std.specs.Prelude.{ℤ, pos, negsuc, FitsSigned, Option, Some, None, IfSome, option_map, if◌then◌else◌}
use Rattle.std.specs.Char.{is_digit}
use Rattle.std.specs.Int.{w64}
use Rattle.std.specs.List.{AllPass, list_all, prefix_len}
use Rattle.std.specs.Option.{option_and_then}
use Rattle.int_core.specs.Arithmetic.{wrapped}
use Rattle.int_core.specs.Numeral.{is_space, is_x, fits, signed, digits_len, digits_of, digits_value, integer_within, IsSign, absent, plus, minus, AreDigits, IsDecimal, IsHexadecimal, SpellsInteger, decimal_of, hexadecimal_of, unsigned_of, spaceless_of, integer_of}
use Rattle.int_core.proofs.NumeralLemmas.{prefix_len_passes_all}

-- ---- a run of bytes and what follows it

-- the run of passing elements before one that does not pass
pub prefix_len-append : {X : Type 0} (p : X → Bool) (xs ys : List X) → list_all p xs ≡ true → prefix_len p ys ≡ 0 → prefix_len p (xs ++ ys) ≡ length xs
prefix_len-append p [] ys all stops = stops
prefix_len-append p (x ∷ xs) ys all stops =
    let here : p x ≡ true = grind (arith) in
    let rest : list_all p xs ≡ true = grind (arith) in
    rw here (ap (λ n. 1 + n) (prefix_len-append p xs ys rest stops) ∙ omega arith)

space-not_digit : (c : ℕ) → is_space c ≡ true → is_digit c 16 ≡ false
space-not_digit c h = grind (arith, nat_tests)

decimal-hexadecimal : (c : ℕ) → is_digit c 10 ≡ true → is_digit c 16 ≡ true
decimal-hexadecimal c h = grind (arith, nat_tests)

-- a byte that begins a numeral
record IsFront (c : ℕ) : Type 0 where
  no_space : is_space c ≡ false
  no_minus : (eqb c 45) ≡ false
  no_plus : (eqb c 43) ≡ false

digit-IsFront : (c : ℕ) → is_digit c 16 ≡ true → IsFront c
digit-IsFront c h = record { no_space = grind (arith, nat_tests); no_minus = grind (arith, nat_tests); no_plus = grind (arith, nat_tests) }

-- ---- digits and the white space behind them

-- a part of a text: digits of the base and then white space
record HasDigits (base : ℕ) (text digits : List ℕ) : Type 0 where
  after : List ℕ
  whole : text ≡ digits ++ after
  are : AreDigits base digits
  space_after : AllPass is_space after

digits_of-given : (base : ℕ) (text digits : List ℕ) (b : Bool) → (nat_lt 0 (digits_len base text) && list_all is_space (drop (digits_len base text) text)) ≡ b → (if b then Some (take (digits_len base text) text) else None) ≡ Some digits → HasDigits base text digits
digits_of-given base text digits false test e = cc
digits_of-given base text digits true test e =
    let n = digits_len base text in
    let some : nat_lt 0 n ≡ true = grind (arith) in
    let blank : list_all is_space (drop n text) ≡ true = grind (arith) in
    let same : take n text ≡ digits = cc in
    record {
      after = drop n text;
      whole = sym (take-append-drop n text) ∙ ap (λ d. d ++ drop n text) same;
      are = rw (← same) (record {
        some = rw (length-prefix_len (λ c. is_digit c base) text) (grind (arith, nat_tests));
        all = prefix_len_passes_all (λ c. is_digit c base) text;
      });
      space_after = AllPass-from_list_all is_space (drop n text) blank;
    }

digits_of-found : (base : ℕ) (text digits : List ℕ) → digits_of base text ≡ Some digits → HasDigits base text digits
digits_of-found base text digits e = digits_of-given base text digits _ refl e

-- white space ends a run of digits
after_digits : (base : ℕ) → base ≤ 16 → (after : List ℕ) → list_all is_space after ≡ true → digits_len base after ≡ 0
after_digits base small [] blank = refl
after_digits base small (c ∷ after) blank =
    let here : is_space c ≡ true = grind (arith) in
    let other : is_digit c base ≡ false = grind (arith, nat_tests) in
    rw other refl

digits_of-only : (base : ℕ) → base ≤ 16 → (digits after : List ℕ) → AreDigits base digits → AllPass is_space after → digits_of base (digits ++ after) ≡ Some digits
digits_of-only base small digits after are blank =
    let p : ℕ → Bool = λ c. is_digit c base in
    let all = list_all-from_AllPass p digits are.all in
    let spaces = list_all-from_AllPass is_space after blank in
    let len : digits_len base (digits ++ after) ≡ length digits = prefix_len-append p digits after all (after_digits base small after spaces) in
    let some : nat_lt 0 (length digits) ≡ true = grind (arith, nat_tests) in
    rw len (rw (drop-append_seam digits after, take-append_seam digits after, some, spaces) refl)

-- ---- decimal and hexadecimal

fits-given : (z : ℤ) → fits z ≡ true → FitsSigned w64 z
fits-given (pos n) h = record { sfits = grind (arith, nat_tests) }
fits-given (negsuc n) h = record { sfits = grind (arith, nat_tests) }

fits-known : (z : ℤ) → FitsSigned w64 z → fits z ≡ true
fits-known (pos n) h = let small = h.sfits in grind (arith, nat_tests)
fits-known (negsuc n) h = let small = h.sfits in grind (arith, nat_tests)

-- a text without white space before it and without a sign
record IsUnsigned (negative : Bool) (text : List ℕ) (n : ℤ) : Type 0 where
  digits : List ℕ
  after : List ℕ
  whole : text ≡ digits ++ after
  spelled : IsDecimal negative digits n ⊎ IsHexadecimal negative digits n
  space_after : AllPass is_space after

decimal-given : (negative : Bool) (text digits : List ℕ) → HasDigits 10 text digits → (b : Bool) → fits (signed negative (digits_value 10 digits)) ≡ b → IfSome (if b then Some (signed negative (digits_value 10 digits)) else None) (IsUnsigned negative text)
decimal-given negative text digits has false test = tt
decimal-given negative text digits has true test =
    record {
      digits = digits;
      after = has.after;
      whole = has.whole;
      spelled = inl (record { digits = has.are; value = refl; fits = fits-given _ test });
      space_after = has.space_after;
    }

decimal-of : (negative : Bool) (text : List ℕ) (found : Option (List ℕ)) → digits_of 10 text ≡ found → IfSome (option_and_then (λ digits. integer_within negative (digits_value 10 digits)) found) (IsUnsigned negative text)
decimal-of negative text None e = tt
decimal-of negative text (Some digits) e = decimal-given negative text digits (digits_of-found 10 text digits e) _ refl

mark-given : (c d : ℕ) → is_x c d ≡ true → (d ≡ 120) ⊎ (d ≡ 88)
mark-given c d x = elim (eqb_tells d 120) [ inl h ↦ inl h.1 | inr h ↦ inr (grind (arith, nat_tests)) ]

hexadecimal-of : (negative : Bool) (c d : ℕ) (text : List ℕ) → is_x c d ≡ true → (found : Option (List ℕ)) → digits_of 16 text ≡ found → IfSome (option_map (λ digits. wrapped (signed negative (digits_value 16 digits))) found) (IsUnsigned negative (c ∷ d ∷ text))
hexadecimal-of negative c d text x None e = tt
hexadecimal-of negative c d text x (Some digits) e =
    let has = digits_of-found 16 text digits e in
    let zero_is : c ≡ 48 = grind (arith, nat_tests) in
    let mark_is : (d ≡ 120) ⊎ (d ≡ 88) = mark-given c d x in
    record {
      digits = c ∷ d ∷ digits;
      after = has.after;
      whole = ap (λ t. c ∷ d ∷ t) has.whole;
      spelled = inr (record { mark = d; rest = digits; whole = ap (λ k. k ∷ d ∷ digits) zero_is; is_x = mark_is; digits = has.are; value = refl });
      space_after = has.space_after;
    }

unsigned-given : (negative : Bool) (c d : ℕ) (text : List ℕ) (b : Bool) → is_x c d ≡ b → IfSome (if b then hexadecimal_of negative text else decimal_of negative (c ∷ d ∷ text)) (IsUnsigned negative (c ∷ d ∷ text))
unsigned-given negative c d text false x = decimal-of negative (c ∷ d ∷ text) _ refl
unsigned-given negative c d text true x = hexadecimal-of negative c d text x _ refl

unsigned-found : (negative : Bool) (text : List ℕ) → IfSome (unsigned_of negative text) (IsUnsigned negative text)
unsigned-found negative [] = decimal-of negative [] _ refl
unsigned-found negative (c ∷ []) = decimal-of negative (c ∷ []) _ refl
unsigned-found negative (c ∷ d ∷ text) = unsigned-given negative c d text _ refl

-- ---- the sign and the white space before it

-- a text without white space before it
record IsSpaceless (text : List ℕ) (n : ℤ) : Type 0 where
  sign : List ℕ
  rest : List ℕ
  negative : Bool
  whole : text ≡ sign ++ rest
  is_sign : IsSign sign negative
  is_unsigned : IsUnsigned negative rest n

with-sign : (sign rest : List ℕ) (negative : Bool) → IsSign sign negative → (found : Option ℤ) → IfSome found (IsUnsigned negative rest) → IfSome found (IsSpaceless (sign ++ rest))
with-sign sign rest negative is None h = tt
with-sign sign rest negative is (Some n) h = record { sign = sign; rest = rest; negative = negative; whole = refl; is_sign = is; is_unsigned = h }

plus-given : (c : ℕ) (text : List ℕ) (b : Bool) → eqb c 43 ≡ b → IfSome (if b then unsigned_of false text else unsigned_of false (c ∷ text)) (IsSpaceless (c ∷ text))
plus-given c text true test =
    let same : c ≡ 43 = grind (arith, nat_tests) in
    rw same (with-sign (43 ∷ []) text false plus (unsigned_of false text) (unsigned-found false text))
plus-given c text false test = with-sign [] (c ∷ text) false absent (unsigned_of false (c ∷ text)) (unsigned-found false (c ∷ text))

minus-given : (c : ℕ) (text : List ℕ) (b : Bool) → eqb c 45 ≡ b → IfSome (if b then unsigned_of true text else if eqb c 43 then unsigned_of false text else unsigned_of false (c ∷ text)) (IsSpaceless (c ∷ text))
minus-given c text true test =
    let same : c ≡ 45 = grind (arith, nat_tests) in
    rw same (with-sign (45 ∷ []) text true minus (unsigned_of true text) (unsigned-found true text))
minus-given c text false test = plus-given c text _ refl

spaceless-found : (text : List ℕ) → IfSome (spaceless_of text) (IsSpaceless text)
spaceless-found [] = tt
spaceless-found (c ∷ text) = minus-given c text _ refl

with-space : (before text : List ℕ) → AllPass is_space before → (found : Option ℤ) → IfSome found (IsSpaceless text) → IfSome found (SpellsInteger (before ++ text))
with-space before text space None h = tt
with-space before text space (Some n) h =
    let u = h.is_unsigned in
    record {
      before = before;
      sign = h.sign;
      digits = u.digits;
      after = u.after;
      negative = h.negative;
      whole = ap (λ t. before ++ t) (h.whole ∙ ap (λ t. h.sign ++ t) u.whole) ∙ simp append_assoc;
      space_before = space;
      is_sign = h.is_sign;
      spelled = u.spelled;
      space_after = u.space_after;
    }

-- what the computed integer says of the text
pub integer_of-found : (text : List ℕ) → IfSome (integer_of text) (SpellsInteger text)
integer_of-found text =
    let n = prefix_len is_space text in
    subst (λ t. IfSome (integer_of text) (SpellsInteger t)) (take-append-drop n text)
    (with-space (take n text) (drop n text) (prefix_len_passes_all is_space text) (integer_of text) (spaceless-found (drop n text)))

-- ---- no other integer is spelled

unsigned-decimal : (negative : Bool) (digits after : List ℕ) → AreDigits 10 digits → AllPass is_space after → unsigned_of negative (digits ++ after) ≡ decimal_of negative (digits ++ after)
unsigned-decimal negative [] after are space = absurd (let some = are.some in omega arith)
unsigned-decimal negative (c ∷ []) [] are space = refl
unsigned-decimal negative (c ∷ []) (d ∷ after) are space =
    let blank : is_space d ≡ true = space 0 0 (omega arith) in
    let other : is_x c d ≡ false = grind (arith, nat_tests) in
    rw other refl
unsigned-decimal negative (c ∷ d ∷ digits) after are space =
    let digit : is_digit d 10 ≡ true = are.all 1 0 (omega arith) in
    let other : is_x c d ≡ false = grind (arith, nat_tests) in
    rw other refl

decimal-only : (negative : Bool) (digits after : List ℕ) (n : ℤ) → IsDecimal negative digits n → AllPass is_space after → unsigned_of negative (digits ++ after) ≡ Some n
decimal-only negative digits after n h space =
    let number : ℤ = signed negative (digits_value 10 digits) in
    let within : fits number ≡ true = fits-known number (subst (FitsSigned w64) h.value h.fits) in
    unsigned-decimal negative digits after h.digits space
    ∙ ap (λ found. option_and_then (λ d. integer_within negative (digits_value 10 d)) found) (digits_of-only 10 (omega arith) digits after h.digits space)
    ∙ rw within (ap Some (sym h.value))

hexadecimal-only : (negative : Bool) (digits after : List ℕ) (n : ℤ) → IsHexadecimal negative digits n → AllPass is_space after → unsigned_of negative (digits ++ after) ≡ Some n
hexadecimal-only negative digits after n h space =
    let marked : is_x 48 h.mark ≡ true = elim h.is_x [ inl e ↦ rw e refl | inr e ↦ rw e refl ] in
    rw h.whole (rw marked
    (ap (λ found. option_map (λ d. wrapped (signed negative (digits_value 16 d))) found) (digits_of-only 16 (omega arith) h.rest after h.digits space)
    ∙ ap Some (sym h.value)))

unsigned-only : (negative : Bool) (digits after : List ℕ) (n : ℤ) → IsDecimal negative digits n ⊎ IsHexadecimal negative digits n → AllPass is_space after → unsigned_of negative (digits ++ after) ≡ Some n
unsigned-only negative digits after n (inl h) space = decimal-only negative digits after n h space
unsigned-only negative digits after n (inr h) space = hexadecimal-only negative digits after n h space

-- the first byte of a numeral without a sign
BeginsNumeral : List ℕ → Type 0
BeginsNumeral [] = ⊥
BeginsNumeral (c ∷ rest) = IsFront c

front_of-decimal : (digits after : List ℕ) → AreDigits 10 digits → BeginsNumeral (digits ++ after)
unfolding BeginsNumeral
front_of-decimal [] after are = absurd (omega (arith, are.some))
front_of-decimal (c ∷ digits) after are = digit-IsFront c (decimal-hexadecimal c (are.all 0 0 (omega arith)))

front_of-spelled : (negative : Bool) (digits after : List ℕ) (n : ℤ) → IsDecimal negative digits n ⊎ IsHexadecimal negative digits n → BeginsNumeral (digits ++ after)
unfolding BeginsNumeral
front_of-spelled negative digits after n (inl h) = front_of-decimal digits after h.digits
front_of-spelled negative digits after n (inr h) = rw h.whole (record { no_space = refl; no_minus = refl; no_plus = refl })

sign-stops : (sign rest : List ℕ) (negative : Bool) → IsSign sign negative → BeginsNumeral rest → prefix_len is_space (sign ++ rest) ≡ 0
unfolding BeginsNumeral
sign-stops _ [] _ absent front = absurd front
sign-stops _ (c ∷ rest) _ absent front = rw front.no_space refl
sign-stops _ rest _ plus front = refl
sign-stops _ rest _ minus front = refl

sign-only : (sign rest : List ℕ) (negative : Bool) (n : ℤ) → IsSign sign negative → BeginsNumeral rest → unsigned_of negative rest ≡ Some n → spaceless_of (sign ++ rest) ≡ Some n
unfolding BeginsNumeral
sign-only _ [] _ n absent front e = absurd front
sign-only _ (c ∷ rest) _ n absent front e = rw (front.no_minus, front.no_plus) e
sign-only _ rest _ n plus front e = e
sign-only _ rest _ n minus front e = e

-- the integer that a text spells is the computed one
pub integer_of-only : (text : List ℕ) (n : ℤ) → SpellsInteger text n → integer_of text ≡ Some n
integer_of-only text n h =
    let rest : List ℕ = h.digits ++ h.after in
    let whole : text ≡ h.before ++ (h.sign ++ rest) = h.whole ∙ simp append_assoc in
    let front = front_of-spelled h.negative h.digits h.after n h.spelled in
    let stops = sign-stops h.sign rest h.negative h.is_sign front in
    let spaces = prefix_len-append is_space h.before (h.sign ++ rest) (list_all-from_AllPass is_space h.before h.space_before) stops in
    rw whole (rw spaces (rw (drop-append_seam h.before (h.sign ++ rest))
    (sign-only h.sign rest h.negative n h.is_sign front (unsigned-only h.negative h.digits h.after n h.spelled h.space_after))))

-- a text spells one integer at most
pub SpellsInteger-same : (text : List ℕ) (m n : ℤ) → SpellsInteger text m → SpellsInteger text n → m ≡ n
SpellsInteger-same text m n h k =
    let first = integer_of-only text m h in
    let second = integer_of-only text n k in
    cc

-- the same of a result that is the computed integer
pub found-by_value : (text : List ℕ) (result : Option ℤ) → result ≡ integer_of text → IfSome result (SpellsInteger text)
found-by_value text result e = rw e (integer_of-found text)

pub only-by_value : (text : List ℕ) (result : Option ℤ) → result ≡ integer_of text → (n : ℤ) → SpellsInteger text n → result ≡ Some n
only-by_value text result e n h = e ∙ integer_of-only text n h

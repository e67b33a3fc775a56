-- Digits with the zeros and marks before them.
use Rattle.std.proofs.Common.{◌≡◌, ℕ, zero, suc, ◌-◌, Bool, true, false, cond, List, [], ◌∷◌, ◌++◌, length, Option, Some, None, refl, sym, ap, ◌∙◌, arith}
use Rattle.std.specs.Prelude.{not, ◌&&◌, ◌==◌}
use Rattle.std.specs.Fmt.{digits}
use Rattle.std.specs.List.{repeat}
use Rattle.std.proofs.lemmas.Bool.Decides.{nat_tests}
use Rattle.library_rows.specs.Formats.{Conversion, has, in_width, in_zeros, or_zero, with_digits, octal_mark, hexadecimal_mark, unsigned_text}
use Rattle.text_format.specs.Told.{begins_with_zero, mark_before, shown_digits, zeros_in}

no_zeros : (k : ℕ) (ds : List ℕ) → k ≡ 0 → ds ≡ repeat k (48 ∷ []) ++ ds
no_zeros zero ds e = refl
no_zeros (suc k) ds e = absurd (omega arith)

pub digits_are : (precision : Option ℕ) (ds : List ℕ) (n : ℕ) → with_digits precision ds n ≡ repeat (or_zero precision - length (shown_digits precision ds n)) (48 ∷ []) ++ shown_digits precision ds n
digits_are None ds n = no_zeros (0 - length ds) ds (omega arith)
digits_are (Some zero) ds zero = refl
digits_are (Some zero) ds (suc n) = refl
digits_are (Some (suc least)) ds n = refl

octal_first : (t : Bool) (d : ℕ) (ds : List ℕ) → cond t (d ∷ ds) (48 ∷ d ∷ ds) ≡ repeat (cond (not t) 1 0) (48 ∷ []) ++ d ∷ ds
octal_first true d ds = refl
octal_first false d ds = refl

octal_is : (k : ℕ) (ds : List ℕ) → octal_mark (repeat k (48 ∷ []) ++ ds) ≡ repeat (cond ((k == 0) && not (begins_with_zero ds)) 1 k) (48 ∷ []) ++ ds
octal_is zero [] = refl
octal_is zero (d ∷ ds) = octal_first (d == 48) d ds
octal_is (suc k) ds =
    let no : (suc k == 0) ≡ false = grind (arith, nat_tests) in
    ap (λ t. repeat (cond (t && not (begins_with_zero ds)) 1 (suc k)) (48 ∷ []) ++ ds) (sym no)

pub unsigned_is : (c : Conversion) (base : ℕ) (upper : Bool) (n : ℕ) (ds : List ℕ) → ds ≡ shown_digits c.precision (digits base upper n) n
    → in_width c (in_zeros c) (mark_before c base upper n) (repeat (zeros_in c base ds) (48 ∷ []) ++ ds) ≡ unsigned_text c base upper n
unsigned_is c base upper n ds is = sym (by (has c.flags 35) (base == 8))
  where
    k : ℕ
    k = or_zero c.precision - length ds

    all : List ℕ
    all = with_digits c.precision (digits base upper n) n

    all_is : all ≡ repeat k (48 ∷ []) ++ ds
    all_is = digits_are c.precision (digits base upper n) n ∙ ap (λ d. repeat (or_zero c.precision - length d) (48 ∷ []) ++ d) (sym is)

    by : (t e : Bool) → cond (not t) (in_width c (in_zeros c) [] all) (cond e (in_width c (in_zeros c) [] (octal_mark all)) (in_width c (in_zeros c) (hexadecimal_mark upper n) all))
        ≡ in_width c (in_zeros c) (cond (not t) [] (cond e [] (hexadecimal_mark upper n))) (repeat (cond (e && (t && ((k == 0) && not (begins_with_zero ds)))) 1 k) (48 ∷ []) ++ ds)
    by false false = ap (in_width c (in_zeros c) []) all_is
    by false true = ap (in_width c (in_zeros c) []) all_is
    by true false = ap (in_width c (in_zeros c) (hexadecimal_mark upper n)) all_is
    by true true = ap (in_width c (in_zeros c) []) (ap octal_mark all_is ∙ octal_is k ds)

-- Literals, a byte at a time.
use Rattle.std.proofs.Common.{◌≡◌, ℕ, ◌-◌, Bool, true, false, cond, List, [], ◌∷◌, ◌++◌, length, refl, sym, ap, ◌∙◌, append_assoc}
use Rattle.std.specs.Prelude.{◌||◌, ◌==◌, not, decimal}
use Rattle.std.specs.List.{repeat}
use Rattle.library_rows.specs.Formats.{before_digit, is_control, quoted_bytes}
use Rattle.text_format.specs.Told.{quoted_byte}

by_tests : (p q r : Bool) (x y z w rest : List ℕ) → cond p (x ++ rest) (cond q (y ++ rest) (cond r (z ++ rest) (w ++ rest))) ≡ cond p x (cond q y (cond r z w)) ++ rest
by_tests true q r x y z w rest = refl
by_tests false true r x y z w rest = refl
by_tests false false true x y z w rest = refl
by_tests false false false x y z w rest = refl

quoted_first : (b : ℕ) (text : List ℕ) → quoted_bytes (b ∷ text) ≡ quoted_byte (before_digit text) b ++ quoted_bytes text
quoted_first b text =
    by_tests (b == 34 || b == 92 || b == 10) (not (is_control b)) (before_digit text) (92 ∷ b ∷ []) (b ∷ []) (92 ∷ repeat (3 - length (decimal b)) (48 ∷ []) ++ decimal b) (92 ∷ decimal b) (quoted_bytes text)

pub one_more_quoted : (whole out out' rest text : List ℕ) (b : ℕ) → out ++ quoted_bytes rest ≡ whole → rest ≡ b ∷ text → out' ≡ out ++ quoted_byte (before_digit text) b → out' ++ quoted_bytes text ≡ whole
one_more_quoted whole out out' rest text b so front is =
    ap (λ bytes. bytes ++ quoted_bytes text) is ∙ append_assoc out (quoted_byte (before_digit text) b) (quoted_bytes text) ∙ ap (λ bytes. out ++ bytes) (sym (quoted_first b text))
    ∙ ap (λ bytes. out ++ quoted_bytes bytes) (sym front) ∙ so

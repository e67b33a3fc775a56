-- Copies of a text, with another one between them.
use Rattle.std.proofs.Common.{ℕ, zero, suc, ◌+◌, ◌*◌, ◌≡◌, ℤ, pos, negsuc, Bool, true, false, List, [], ◌∷◌, ◌++◌, length, refl, sym, ap, ◌∙◌, append_assoc, append-nil, add-one, arith}
use Rattle.std.specs.Prelude.{nat_le}
use Rattle.std.specs.List.{repeat}
use Rattle.std.proofs.lemmas.Bool.Decides.{nat_tests}
use Rattle.int_core.specs.Value.{string, greatest_string}
use Rattle.library_rows.specs.Plainly.{Outcome, error, too_large}
use Rattle.library_rows.specs.Arguments.{one}
use Rattle.library_rows.specs.Strings.{copies}

-- one more copy may be put at the end
at_end : (n : ℕ) (piece : List ℕ) → repeat n piece ++ piece ≡ piece ++ repeat n piece
at_end zero piece = sym (append-nil piece)
at_end (suc n) piece = append_assoc piece (repeat n piece) piece ∙ ap (λ ps. piece ++ ps) (at_end n piece)

pub one_more_copy : (before text between bytes : List ℕ) (n : ℕ) → bytes ≡ before ++ repeat n (between ++ text) → (bytes ++ between) ++ text ≡ before ++ repeat (n + 1) (between ++ text)
one_more_copy before text between bytes n is =
    ap (λ b. (b ++ between) ++ text) is ∙ append_assoc (before ++ repeat n (between ++ text)) between text ∙ append_assoc before (repeat n (between ++ text)) (between ++ text)
    ∙ ap (λ ps. before ++ ps) (at_end n (between ++ text)) ∙ ap (λ k. before ++ repeat k (between ++ text)) (sym (add-one n))

all_nothing : (n : ℕ) → repeat {A = ℕ} n [] ≡ []
all_nothing zero = refl
all_nothing (suc n) = all_nothing n

chosen : (b : Bool) (x y : Outcome) → b ≡ true → elim b as (λ _. Outcome) [ true ↦ x | false ↦ y ] ≡ x
chosen b x y e = ap (λ (d : Bool). elim d as (λ _. Outcome) [ true ↦ x | false ↦ y ]) e

-- copies of nothing
pub no_copies : (text between : List ℕ) (n : ℤ) → length text ≡ 0 → length between ≡ 0 → copies text between n ≡ one (string [])
no_copies [] [] (pos zero) a b = refl
no_copies [] [] (pos (suc n)) a b =
    chosen (nat_le (0 * (n + 1) + 0 * n) greatest_string) (one (string (repeat n []))) (error too_large) (grind (arith, nat_tests)) ∙ ap (λ s. one (string s)) (all_nothing n)
no_copies [] [] (negsuc n) a b = refl
no_copies (c ∷ text) between n a b = absurd (omega arith)
no_copies [] (c ∷ between) n a b = absurd (omega arith)

-- What stands behind a front of a word.
use Rattle.std.proofs.Common.{◌≡◌, ℕ, true, false, List, [], ◌∷◌, ◌++◌, Some, None, Bool, cond, refl, sym, ap₂, nat_eq}
use Rattle.std.specs.Prelude.{nat_eq}
use Rattle.std.proofs.lemmas.Bool.Decides.{Decides-eqb}
use Rattle.command_words.specs.Reading.{value_behind}

same_bytes : (n : ℕ) → nat_eq n n ≡ true
same_bytes n = (Decides-eqb n n).1 refl

pub behind_front : (front rest : List ℕ) → value_behind front (front ++ rest) ≡ Some rest
behind_front [] rest = refl
behind_front (byte ∷ front) rest = rw (same_bytes byte) (behind_front front rest)

by_test : (t : Bool) (byte first : ℕ) (front word rest : List ℕ) → nat_eq byte first ≡ t → cond t (value_behind front word) None ≡ Some rest → (value_behind front word ≡ Some rest → word ≡ front ++ rest)
    → first ∷ word ≡ (byte ∷ front) ++ rest
by_test true byte first front word rest e h further = ap₂ (λ b w. b ∷ w) (sym ((Decides-eqb byte first).0 e)) (further h)
by_test false byte first front word rest e h further = absurd (cc)

pub is_front : (front word rest : List ℕ) → value_behind front word ≡ Some rest → word ≡ front ++ rest
is_front [] word rest e = cc
is_front (byte ∷ front) [] rest e = absurd (cc)
is_front (byte ∷ front) (first ∷ word) rest e = by_test (nat_eq byte first) byte first front word rest refl e (is_front front word rest)

-- What the frames of a coroutine hold; and a stack from either end.
use Rattle.std.proofs.Common.{ℕ, ◌<◌, ◌≡◌, ⊎_elim, List, [], ◌∷◌, ◌++◌, length, refl, ap, ◌∙◌, arith}
use Rattle.std.specs.Prelude.{reverse}
use Rattle.std.proofs.lemmas.List.{reverse-append}
use Rattle.list_laws.proofs.Ends.{upward}
use Rattle.list_laws.specs.Held.{Held}
use Rattle.machine_means.specs.Joined.{Holds}

pub holds_less : (held : List Held) (f r c : ℕ) → Holds f r c held → f < length held
holds_less [] f r c k = absurd k
holds_less (h ∷ held) f r c k = ⊎_elim (λ m. let e = m.0 in omega (arith, e)) (λ m. let e = holds_less held f r c m in omega (arith, e)) k

pub reverse_is : {A : Type 0} (xs : List A) → reverse xs ≡ upward xs
reverse_is [] = refl
reverse_is (x ∷ xs) = reverse-append (x ∷ []) xs ∙ ap (λ ys. ys ++ x ∷ []) (reverse_is xs)

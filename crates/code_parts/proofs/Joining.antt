-- What two parts of a piece of tree put behind a list is what the whole puts there.
use Rattle.std.proofs.Common.{◌≡◌, List, ◌++◌, ap, ◌∙◌, append_assoc}

pub joined : {A : Type 0} (xs a b : List A) {ys zs : List A} → ys ≡ xs ++ a → zs ≡ ys ++ b → zs ≡ xs ++ (a ++ b)
joined xs a b first second = second ∙ ap (λ y. y ++ b) first ∙ append_assoc xs a b

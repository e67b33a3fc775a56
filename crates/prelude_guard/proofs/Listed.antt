-- The functions that are defined in one, as a list.
use Rattle.std.proofs.Common.{◌≡◌, List, [], ◌∷◌, refl, ap}
use Rattle.code_core.specs.Prototype.{Prototype, prototypes, list_of}

pub list_of_prototypes : (ps : List Prototype) → list_of (prototypes ps) ≡ ps
list_of_prototypes [] = refl
list_of_prototypes (p ∷ ps) = ap (λ qs. p ∷ qs) (list_of_prototypes ps)

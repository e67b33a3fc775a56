-- The functions that are defined in one, as a list.
use Rattle.std.proofs.Common.{◌≡◌, ℕ, zero, suc, ◌-◌, ◌<◌, List, [], ◌∷◌, refl, ap, arith}
use Rattle.code_core.specs.Prototype.{Prototype, prototypes, list_of}
use Rattle.code_core.specs.Check.{at, in_front}

pub list_of_prototypes : (ps : List Prototype) → list_of (prototypes ps) ≡ ps
list_of_prototypes [] = refl
list_of_prototypes (p ∷ ps) = ap (λ qs. p ∷ qs) (list_of_prototypes ps)

pub in_front_is : (p : Prototype) (pc : ℕ) → 0 < pc → in_front p pc ≡ at p (pc - 1)
in_front_is p zero h = absurd (omega arith)
in_front_is p (suc pc) h = let e : pc ≡ suc pc - 1 = omega arith in ap (λ n. at p n) e

-- Lists of values.
use Rattle.std.proofs.Common.{ℕ, zero, suc, ◌≡◌, List, [], ◌∷◌, length, refl, ap}
use Rattle.int_core.specs.Value.{Value, fitted}

pub length_fitted : (n : ℕ) (vs : List Value) → length (fitted n vs) ≡ n
length_fitted zero vs = refl
length_fitted (suc n) [] = ap suc (length_fitted n [])
length_fitted (suc n) (v ∷ vs) = ap suc (length_fitted n vs)

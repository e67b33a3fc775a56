-- What is said of all labels is said of the one that a name stands for.
use Rattle.std.proofs.Common.{ℕ, Bool, true, false, cond, List, [], ◌∷◌, ◌++◌, Option, Some, None, bytes_eq}
use Rattle.code_of.specs.Jumps.{Landing, Visible, label_in}

-- the landing of a jump, if there is one
abbrev pub Lands : (Landing → Type 0) → Option Landing → Type 0
Lands P None = Unit {0}
Lands P (Some x) = P x

abbrev pub AllLand : (Landing → Type 0) → List Visible → Type 0
AllLand P [] = Unit {0}
AllLand P (v ∷ vs) = P v.landing × AllLand P vs

pub both_land : (P : Landing → Type 0) (xs ys : List Visible) → AllLand P xs → AllLand P ys → AllLand P (xs ++ ys)
both_land P [] ys h k = k
both_land P (x ∷ xs) ys h k = (h.0, both_land P xs ys h.1 k)

pub label_lands : (P : Landing → Type 0) (name : List ℕ) (labels : List Visible) → AllLand P labels → Lands P (label_in name labels)
label_lands P name [] h = tt
label_lands P name (x ∷ labels) h = by (bytes_eq x.name name) (label_lands P name labels h.1)
  where
    by : (b : Bool) → Lands P (label_in name labels) → Lands P (cond b (Some x.landing) (label_in name labels))
    by true rest = h.0
    by false rest = rest

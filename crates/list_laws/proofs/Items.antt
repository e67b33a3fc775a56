-- Items of a list: of one that is set, and of one that grew.
use Rattle.std.proofs.Common.{ℕ, zero, suc, ◌≡◌, ◌≢◌, ◌⊎◌, inl, inr, ⊎_elim, List, [], ◌∷◌, ◌++◌, length, Some, refl, ap}
use Rattle.std.specs.Prelude.{slice_get, slice_set, unwrap_or}

pub get_set_same : {A : Type 0} (xs : List A) (i : ℕ) (y x : A) → slice_get xs i ≡ Some y → slice_get (slice_set xs i x) i ≡ Some x
get_set_same [] i y x h = absurd (cc)
get_set_same (z ∷ xs) zero y x h = refl
get_set_same (z ∷ xs) (suc i) y x h = get_set_same xs i y x h

pub get_set_other : {A : Type 0} (xs : List A) (i j : ℕ) (x : A) → i ≢ j → slice_get (slice_set xs i x) j ≡ slice_get xs j
get_set_other [] i j x h = refl
get_set_other (z ∷ xs) zero zero x h = absurd (h refl)
get_set_other (z ∷ xs) zero (suc j) x h = refl
get_set_other (z ∷ xs) (suc i) zero x h = refl
get_set_other (z ∷ xs) (suc i) (suc j) x h = get_set_other xs i j x (λ e. h (ap suc e))

pub length_set : {A : Type 0} (xs : List A) (i : ℕ) (x : A) → length (slice_set xs i x) ≡ length xs
length_set [] i x = refl
length_set (z ∷ xs) zero x = refl
length_set (z ∷ xs) (suc i) x = ap suc (length_set xs i x)

pub get_old : {A : Type 0} (xs ys : List A) (i : ℕ) (x : A) → slice_get xs i ≡ Some x → slice_get (xs ++ ys) i ≡ Some x
get_old [] ys i x h = absurd (cc)
get_old (z ∷ xs) ys zero x h = h
get_old (z ∷ xs) ys (suc i) x h = get_old xs ys i x h

pub get_new : {A : Type 0} (xs : List A) (x : A) → slice_get (xs ++ x ∷ []) (length xs) ≡ Some x
get_new [] x = refl
get_new (z ∷ xs) x = get_new xs x

-- an element of a list with one more: the new one, or an old one
pub get_either : {A : Type 0} (xs : List A) (x : A) (i : ℕ) (y : A) → slice_get (xs ++ x ∷ []) i ≡ Some y → (slice_get xs i ≡ Some y) ⊎ ((i ≡ length xs) × (x ≡ y))
get_either [] x zero y h = let e : x ≡ y = cc in inr (refl, e)
get_either [] x (suc i) y h = absurd (cc)
get_either (z ∷ xs) x zero y h = inl h
get_either (z ∷ xs) x (suc i) y h = ⊎_elim (λ k. inl k) (λ k. inr (ap suc k.0, k.1)) (get_either xs x i y h)

pub length_more : {A : Type 0} (ys : List A) (y : A) → length (ys ++ y ∷ []) ≡ suc (length ys)
length_more [] y = refl
length_more (z ∷ ys) y = ap suc (length_more ys y)

pub append_nil : {A : Type 0} (xs : List A) → xs ++ [] ≡ xs
append_nil [] = refl
append_nil (x ∷ xs) = ap (λ ys. x ∷ ys) (append_nil xs)

pub some_same : {A : Type 0} → (x y : A) → Some x ≡ Some y → x ≡ y
some_same x y e = ap (λ o. unwrap_or o x) e

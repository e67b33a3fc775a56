-- The last item of a list, and a stack from the top.
use Rattle.std.proofs.Common.{suc, ◌-◌, ◌≡◌, List, [], ◌∷◌, ◌++◌, length, Some, refl, ap, ◌∙◌, arith}
use Rattle.std.specs.Prelude.{slice_get, take}
use Rattle.int_core.specs.Value.{last, without_last}
use Rattle.list_laws.proofs.Items.{get_new, length_more}

pub last_is : {A : Type 0} (xs : List A) (x : A) → last (xs ++ x ∷ []) ≡ Some x
last_is [] x = refl
last_is (y ∷ ys) x = ap (λ n. slice_get (y ∷ (ys ++ x ∷ [])) n) (length_more ys x) ∙ get_new ys x

take_all : {A : Type 0} (xs ys : List A) → take (length xs) (xs ++ ys) ≡ xs
take_all [] ys = refl
take_all (x ∷ xs) ys = ap (λ z. x ∷ z) (take_all xs ys)

pub without_last_is : {A : Type 0} (xs : List A) (x : A) → without_last (xs ++ x ∷ []) ≡ xs
without_last_is xs x =
    let e : length (xs ++ x ∷ []) - 1 ≡ length xs = (let l = length_more xs x in omega (arith, l)) in
    ap (λ n. take n (xs ++ x ∷ [])) e ∙ take_all xs (x ∷ [])

-- a stack from the top, listed from the bottom
abbrev pub upward : {A : Type 0} → List A → List A
upward [] = []
upward (x ∷ xs) = upward xs ++ x ∷ []

pub length_upward : {A : Type 0} (xs : List A) → length (upward xs) ≡ length xs
length_upward [] = refl
length_upward (x ∷ xs) = length_more (upward xs) x ∙ ap suc (length_upward xs)

-- a list from its end
pub data Snoc {A : Type 0} : List A → Type 0 where
  empty : Snoc []
  with_last : (ys : List A) → (y : A) → Snoc (ys ++ y ∷ [])

snoc_more : {A : Type 0} (x : A) (zs : List A) → Snoc zs → Snoc (x ∷ zs)
snoc_more x _ empty = with_last [] x
snoc_more x _ (with_last ys y) = with_last (x ∷ ys) y

pub snoc : {A : Type 0} (xs : List A) → Snoc xs
snoc [] = empty
snoc (x ∷ xs) = snoc_more x xs (snoc xs)

-- What is made of the first of some records, and of one more.
use Rattle.std.proofs.Common.{◌≡◌, ℕ, suc, ◌+◌, ◌<◌, ◌≤◌, List, [], ◌∷◌, ◌++◌, map, take, length, get_or, sym, ap, ◌∙◌, arith}
use Rattle.std.specs.Prelude.{slice_get, Some}
use Rattle.std.proofs.lemmas.Option.{slice_get_within, slice_get-get_or}
use Rattle.std.proofs.Math.Seq.{take-suc}
use Rattle.std.proofs.lemmas.List.{map-append, take_all}

pub got : {A : Type 0} (xs : List A) (i : ℕ) (x : A) → slice_get xs i ≡ Some x → get_or xs i x ≡ x
got xs i x e = same (sym (slice_get-get_or xs i x (slice_get_within xs i x e)) ∙ e)
  where
    same : {A : Type 0} {a b : A} → Some a ≡ Some b → a ≡ b
    same e = cc

module _ {A C K : Type 0} (f : A → C) (g : K → C) (xs : List K) where
  pub one_more : (i : ℕ) (x : K) (done new : List A) (y : A) → i < length xs → x ≡ get_or xs i x → f y ≡ g x → new ≡ done ++ y ∷ [] → map f done ≡ map g (take i xs)
      → map f new ≡ map g (take (i + 1) xs)
  one_more i x done new y within item made pushed before =
      let on : i + 1 ≡ suc i = omega arith in
      ap (map f) pushed ∙ map-append f done (y ∷ []) ∙ ap (λ c. map f done ++ c ∷ []) made ∙ ap (λ cs. cs ++ g x ∷ []) before
      ∙ sym (ap (λ n. map g (take n xs)) on ∙ ap (map g) (take-suc xs i x within) ∙ map-append g (take i xs) (get_or xs i x ∷ []) ∙ ap (λ k. map g (take i xs) ++ g k ∷ []) (sym item))

  pub one_more_at : (i : ℕ) (x : K) (done new : List A) (y : A) → slice_get xs i ≡ Some x → f y ≡ g x → new ≡ done ++ y ∷ [] → map f done ≡ map g (take i xs) → map f new ≡ map g (take (i + 1) xs)
  one_more_at i x done new y there made pushed before = one_more i x done new y (slice_get_within xs i x there) (sym (got xs i x there)) made pushed before

  pub all_done : (i : ℕ) (done : List A) → length xs ≤ i → map f done ≡ map g (take i xs) → map f done ≡ map g xs
  all_done i done ended h = h ∙ ap (map g) (take_all i xs ended)

-- Lists that are gone through one by one.
use Rattle.std.proofs.Common.{arith, ℕ, suc, ◌+◌, ◌≡◌, ◌≤◌, ◌<◌, List, [], ◌∷◌, sym, ap, ◌∙◌, length, map, take, drop, reverse}
use Rattle.std.specs.Prelude.{slice_index_or}
use Rattle.std.proofs.lemmas.List.{drop_more, drop_all, get_or-map, length-map, reverse-append}
use Rattle.std.proofs.Math.Seq.{take-suc}
use Rattle.scope_core.proofs.Holding.{front}

pub on :
    {S X V : Type 0} (M : S → List X → V) (step : S → X → List X → S)
    → ((s : S) (x : X) (xs : List X) → M s (x ∷ xs) ≡ M (step s x xs) xs)
    → (s s' : S) (xs : List X) (i : ℕ) (x : X) (all : V)
    → i < length xs → x ≡ slice_index_or xs i x → s' ≡ step s x (drop (i + 1) xs) → M s (drop i xs) ≡ all
    → M s' (drop (i + 1) xs) ≡ all
on M step splits s s' xs i x all h is same known =
    ap (λ z. M z (drop (i + 1) xs)) same
    ∙ sym (splits s x (drop (i + 1) xs))
    ∙ sym (ap (M s) (front xs i x h is))
    ∙ known

pub at_end : {S X V : Type 0} (M : S → List X → V) (s : S) (xs : List X) (i : ℕ) (all : V) → length xs ≤ i → M s (drop i xs) ≡ all → M s [] ≡ all
at_end M s xs i all h known = ap (M s) (sym (drop_all i xs h)) ∙ known

-- an item of a list that is seen through a map
pub mapped : {X Y : Type 0} (f : X → Y) (xs : List X) (i : ℕ) (x : X) → i < length xs → x ≡ slice_index_or xs i x → f x ≡ slice_index_or (map f xs) i (f x)
mapped f xs i x h is = ap f is ∙ sym (get_or-map f xs i x (f x) h)

pub within : {X Y : Type 0} (f : X → Y) (xs : List X) (i : ℕ) → i < length xs → i < length (map f xs)
within f xs i h = rw (length-map xs f) h

pub gone : {X Y : Type 0} (f : X → Y) (xs : List X) (i : ℕ) → length xs ≤ i → length (map f xs) ≤ i
gone f xs i h = rw (length-map xs f) h

pub passed : {X : Type 0} (xs : List X) (i : ℕ) (x : X) → i < length xs → x ≡ slice_index_or xs i x → x ∷ reverse (take i xs) ≡ reverse (take (i + 1) xs)
passed xs i x h is =
    ap (λ y. y ∷ reverse (take i xs)) is
    ∙ sym (reverse-append (take i xs) (slice_index_or xs i x ∷ []))
    ∙ ap reverse (sym (take-suc xs i x h))
    ∙ ap (λ n. reverse (take n xs)) (sym (plus_one i))
  where
    plus_one : (n : ℕ) → n + 1 ≡ suc n
    plus_one n = omega arith

-- Texts joined one after another.
use Rattle.std.proofs.Common.{ℕ, ◌+◌, ◌≤◌, ◌<◌, ◌≡◌, List, [], ◌∷◌, ◌++◌, length, map, drop, get_or, Ok, subst, ap, sym, ◌∙◌}
use Rattle.std.proofs.lemmas.List.{drop_more, at_drop_all}
use Rattle.int_core.specs.Value.{Shape, is_known, string, greatest_string}
use Rattle.library_rows.specs.Plainly.{error, too_large}
use Rattle.library_rows.specs.Arguments.{with, one}
use Rattle.library_rows.specs.Base.{joined, joined_text}
use Rattle.text_functions.proofs.Pieces.{IsSoFar, at_first, piece_fits, piece_is_refused, all_there}

-- the pieces by what holds their bytes
module _ {A : Type 0} (bytes : A → List ℕ) where
  abbrev pub shapes : List A → List Shape
  shapes xs = map (λ x. is_known (string (bytes x))) xs

  pub record IsJoined (xs : List A) (at : ℕ) (text : List ℕ) : Type 0 where
    pub so_far : IsSoFar (joined_text (shapes xs) greatest_string) text (λ room. joined_text (shapes (drop at xs)) room)

  pub none_joined : (xs : List A) → IsJoined xs 0 []
  none_joined xs = record { so_far = at_first (λ room. joined_text (shapes xs) room) }

  next : (xs : List A) (at : ℕ) (text : List ℕ) (x : A) → IsJoined xs at text → (at < length xs) × (x ≡ get_or xs at x)
      → IsSoFar (joined_text (shapes xs) greatest_string) text (λ room. joined_text (shapes (x ∷ drop (at + 1) xs)) room)
  next xs at text x j h = subst (λ ys. IsSoFar (joined_text (shapes xs) greatest_string) text (λ room. joined_text (shapes ys) room)) (drop_more xs at x h.0 ∙ ap (λ y. y ∷ drop (at + 1) xs) (sym h.1)) j.so_far

  pub one_more : (xs : List A) (at : ℕ) (text : List ℕ) (x : A) → IsJoined xs at text → (at < length xs) × (x ≡ get_or xs at x) → length text + length (bytes x) ≤ greatest_string
      → IsJoined xs (at + 1) (text ++ bytes x)
  one_more xs at text x j h fits = record { so_far = piece_fits _ text (bytes x) (λ room. joined_text (shapes (drop (at + 1) xs)) room) (next xs at text x j h) fits }

  pub one_too_many : (xs : List A) (at : ℕ) (text : List ℕ) (x : A) → IsJoined xs at text → (at < length xs) × (x ≡ get_or xs at x) → greatest_string < length text + length (bytes x)
      → joined (shapes xs) ≡ error too_large
  one_too_many xs at text x j h large =
      ap (λ r. with r (λ text. one (string text))) (piece_is_refused _ text (bytes x) (λ room. joined_text (shapes (drop (at + 1) xs)) room) (next xs at text x j h) large)

  pub all_joined : (xs : List A) (at : ℕ) (text : List ℕ) → IsJoined xs at text → length xs ≤ at → joined (shapes xs) ≡ one (string text)
  all_joined xs at text j h =
      let e : joined_text (shapes xs) greatest_string ≡ Ok text =
      all_there _ text (subst (λ ys. IsSoFar (joined_text (shapes xs) greatest_string) text (λ room. joined_text (shapes ys) room)) (at_drop_all (λ ys. ys) xs at h) j.so_far) in
      ap (λ r. with r (λ text. one (string text))) e

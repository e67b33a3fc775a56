-- The order of first visit: what is met first comes first, and the list of what was met is its own queue.
use Rattle.std.specs.Prelude.{ℕ, zero, suc, ◌<◌, ◌^◌, ◌≡◌, Bool, true, false, cond, List, [], ◌∷◌, ◌++◌, Option, Some, None, option_map, slice_get}

module _ {A : Type 0} (same : A → A → Bool) where
  abbrev pub met : List A → A → Bool
  met [] o = false
  met (x ∷ xs) o = cond (same x o) true (met xs o)

  -- the place of the first that is the same
  abbrev pub place : List A → A → Option ℕ
  place [] o = None
  place (x ∷ xs) o = cond (same x o) (Some 0) (option_map suc (place xs o))

  -- those that were not met come after
  abbrev pub add_new : List A → List A → List A
  add_new seen [] = seen
  add_new seen (o ∷ os) = add_new (cond (met seen o) seen (seen ++ o ∷ [])) os

  -- the parts of what stands at place k and of those after it are met, over at most n of these
  abbrev pub visit : (A → List A) → ℕ → ℕ → List A → List A
  visit parts zero k seen = seen
  visit parts (suc n) k seen = elim (slice_get seen k) [ None ↦ seen | Some o ↦ visit parts n (suc k) (add_new seen (parts o)) ]

  abbrev pub order : (A → List A) → ℕ → List A → List A
  order parts n roots = visit parts n 0 (add_new [] roots)

  abbrev pub IsMet : List A → A → Type 0
  IsMet seen o = met seen o ≡ true

  -- the parts of each of the first k are met
  abbrev pub AreVisited : (A → List A) → ℕ → List A → Type 0
  AreVisited parts k seen = (i : ℕ) (o q : A) (j : ℕ) → i < k → slice_get seen i ≡ Some o → slice_get (parts o) j ≡ Some q → IsMet seen q

-- no image has so many records
abbrev pub greatest_count : ℕ
greatest_count = 2 ^ 32

-- Rows that look at no table: functions from the shapes of the arguments to plain results.
use Rattle.std.specs.Prelude.{◌≡◌, ℕ, zero, suc, Bool, true, cond, List, [], ◌∷◌, map, length, nat_le, codes, nat_le}
use Rattle.std.specs.List.{list_all}
use Rattle.int_core.specs.Value.{Plain, string, Value, known, Shape, shape, greatest_string}
use Rattle.int_core.specs.Heap.{Heap}
use Rattle.library_rows.specs.Look.{read, written, look, Look, gives, refuses, count, does, Done, done, refused, looked}

-- results, or the text of an error
pub data Outcome : Type 0 where
  results : List Plain → Outcome
  error : List ℕ → Outcome

abbrev pub too_large : List ℕ
too_large = codes "resulting string too large"

abbrev pub fits_length : Plain → Bool
fits_length (string bytes) = nat_le (length bytes) greatest_string
fits_length _ = true

-- no row gives a string beyond the limit
abbrev pub told_as : Outcome → Look
told_as (results ps) = cond (list_all fits_length ps) (gives (map written ps)) (refuses too_large)
told_as (error text) = refuses text

-- the shapes of so many arguments from a place on
abbrev pub sees : (many at : ℕ) → (List Shape → Look) → Look
sees zero at k = k []
sees (suc many) at k = does look (read at ∷ []) (λ s. sees many (suc at) (λ ss. k (s ∷ ss)))

abbrev pub sees_all : (List Shape → Look) → Look
sees_all k = count 0 (λ many. sees many 0 k)

abbrev pub plainly : (List Shape → Outcome) → Look
plainly f = sees_all (λ ss. told_as (f ss))

abbrev pub done_as : Heap → Outcome → Done
done_as H (results ps) = cond (list_all fits_length ps) (done H (map known ps)) (refused too_large)
done_as H (error text) = refused text

-- such a row is its function of the arguments' shapes, and leaves the heap as it was
abbrev pub PlainRowsAreFunctions : Type 0
PlainRowsAreFunctions = (f : List Shape → Outcome) (vs : List Value) (H : Heap) → looked (plainly f) vs H ≡ done_as H (f (map shape vs))

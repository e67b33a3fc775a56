-- Items by their places, and registers behind a number of results.
use Rattle.std.proofs.Common.{◌≡◌, ℕ, zero, suc, ◌+◌, List, map, refl}
use Rattle.std.specs.Prelude.{slice_get}
use Rattle.std.specs.Option.{option_map}
use Rattle.std.proofs.lemmas.Option.{slice_get-map}
use Rattle.machine_core.specs.Text.{behind}

pub slice_mapped : {A B : Type 0} (view : A → B) (xs : List A) (n : ℕ) → slice_get (map view xs) n ≡ option_map view (slice_get xs n)
slice_mapped view xs n = slice_get-map view xs n

pub behind_some : (from count : ℕ) → (count ≡ 0 → ⊥) → behind from count ≡ from + count
behind_some from zero h = absurd (h refl)
behind_some from (suc count) h = refl

-- Arguments that are read in two steps.
use Rattle.std.proofs.Common.{◌≡◌, ℕ, List, Result, Ok, Err, refl}
use Rattle.library_rows.specs.Arguments.{with}
use Rattle.library_rows.specs.Formats.{then_ok}
use Rattle.library_rows.specs.Plainly.{Outcome}

pub with_then : {A B : Type 0} (r : Result A (List ℕ)) (f : A → Result B (List ℕ)) (k : B → Outcome) → with r (λ x. with (f x) k) ≡ with (then_ok r f) k
with_then (Ok x) f k = refl
with_then (Err text) f k = refl

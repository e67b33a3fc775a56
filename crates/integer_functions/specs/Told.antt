-- What the functions on integers answer, beside the outcomes of rows.
use Rattle.std.specs.Prelude.{ℤ, Bool, true, false, Option, Some, None, codes}
use Rattle.int_core.specs.Value.{integer}
use Rattle.library_rows.specs.Plainly.{Outcome, error}
use Rattle.library_rows.specs.Arguments.{bad_argument, one}

-- the next one where it is better than the best so far
abbrev pub better_of : (ℤ → ℤ → Bool) → ℤ → ℤ → ℤ
better_of better n m = elim (better m n) [ true ↦ m | false ↦ n ]

-- what `fmod` answers where there is a remainder, and where the divisor is 0
abbrev pub told_remainder : Option ℤ → Outcome
told_remainder None = error (bad_argument 2 (codes "fmod") (codes "zero"))
told_remainder (Some n) = one (integer n)

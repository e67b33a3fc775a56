-- The best of some integers.
use Rattle.std.specs.Prelude.{◌≡◌, ℤ, int_lt, Bool, Result, Ok, Err}
use Rattle.int_core.specs.Value.{integer}
use Rattle.library_rows.specs.Arguments.{one}
use Rattle.library_rows.specs.Plainly.{Outcome, error}
use Rattle.library_arguments.specs.Refusals.{refusal_text}
use Rattle.library_arguments.specs.declared.refusal.Refusal.{Refusal}
use Rattle.pure_functions.specs.declared.math.Wanted.{Wanted}
use Rattle.pure_functions.specs.declared.math.Wanted.TheVariants.{Greatest, Least}

-- whether the first is better than the second
abbrev pub better_than : Wanted → ℤ → ℤ → Bool
better_than Greatest m n = int_lt n m
better_than Least m n = int_lt m n

-- an integer as the one result, or its error
abbrev pub IsBest : Outcome → Result ℤ Refusal → Type 0
IsBest told (Ok n) = told ≡ one (integer n)
IsBest told (Err why) = told ≡ error (refusal_text why)

-- What functions answer, beside the outcomes of the rows.
use Rattle.std.specs.Prelude.{◌≡◌, ℕ, true, ◌∷◌, [], cond, List, map, Result, Ok, Err}
use Rattle.std.specs.List.{list_all}
use Rattle.int_core.specs.Value.{Plain as Known, known}
use Rattle.int_core.specs.Heap.{Heap}
use Rattle.library_rows.specs.Look.{done, refused}
use Rattle.library_rows.specs.Plainly.{Outcome, results, error, done_as, fits_length, too_large}
use Rattle.library_arguments.specs.declared.refusal.Fault.{Fault}
use Rattle.library_arguments.specs.declared.refusal.Fault.TheVariants.{Refused, Memory}
use Rattle.library_arguments.specs.declared.refusal.Refusal.{Refusal}
use Rattle.library_arguments.specs.declared.results.Results.{Results}
use Rattle.library_arguments.specs.declared.results.Results.TheVariants.{One, Many}
use Rattle.library_arguments.specs.Shapes.{known_of}
use Rattle.library_arguments.specs.Refusals.{refusal_text}

abbrev pub results_of : Results → List Known
results_of (One p) = known_of p ∷ []
results_of (Many ps) = map known_of ps.items

-- a string beyond the limit is an error in place of the results
abbrev pub within_limit : Outcome → Outcome
within_limit (results ps) = cond (list_all fits_length ps) (results ps) (error too_large)
within_limit (error text) = error text

-- the results within the limit on strings, or the error; want of memory says nothing
abbrev pub IsAnswer : Result Results Fault → Outcome → Type 0
IsAnswer (Ok given) told = within_limit told ≡ results (results_of given)
IsAnswer (Err (Refused why)) told = within_limit told ≡ error (refusal_text why)
IsAnswer (Err Memory) told = Unit {0}

-- results that may be refused alone
abbrev pub IsLimited : Result Results Refusal → Outcome → Type 0
IsLimited (Ok given) told = within_limit told ≡ results (results_of given)
IsLimited (Err why) told = within_limit told ≡ error (refusal_text why)

-- such results are those of the row, and none of them is a string beyond the limit
abbrev pub AnswersAreDone : Type 0
AnswersAreDone = (told : Outcome) (ps : List Known) (H : Heap) → within_limit told ≡ results ps → (done_as H told ≡ done H (map known ps)) × (list_all fits_length ps ≡ true)

-- such an error is that of the row
abbrev pub RefusalsAreDone : Type 0
RefusalsAreDone = (told : Outcome) (text : List ℕ) (H : Heap) → within_limit told ≡ error text → done_as H told ≡ refused text

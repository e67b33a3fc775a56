-- What a replacement comes to, before it becomes values.
use Rattle.std.specs.Prelude.{◌≡◌, ◌==◌, ℕ, Bool, true, List, map, Result, Ok, Err}
use Rattle.std.specs.List.{list_all}
use Rattle.int_core.specs.Heap.{Heap}
use Rattle.int_core.specs.Value.{Value, known}
use Rattle.library_arguments.specs.Answers.{results_of}
use Rattle.library_arguments.specs.Refusals.{refusal_text}
use Rattle.library_arguments.specs.declared.refusal.Fault.{Fault}
use Rattle.library_arguments.specs.declared.refusal.Fault.TheVariants.{Refused, Memory}
use Rattle.library_arguments.specs.declared.results.Results.{Results}
use Rattle.library_rows.specs.Base.{expand}
use Rattle.library_rows.specs.Look.{done, refused, looked}
use Rattle.library_rows.specs.Plainly.{fits_length}

-- its results within the limit on strings, or the error; want of memory says nothing
abbrev pub IsExpanded : List Value → Heap → Result Results Fault → Type 0
IsExpanded vs H (Ok results) = (looked expand vs H ≡ done H (map known (results_of results))) × (list_all fits_length (results_of results) ≡ true)
IsExpanded vs H (Err (Refused why)) = looked expand vs H ≡ refused (refusal_text why)
IsExpanded vs H (Err Memory) = Unit {0}

-- a `%` stands for no byte of its own in a replacement
abbrev pub is_escape : ℕ → Bool
is_escape byte = byte == 37

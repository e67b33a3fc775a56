-- Numbers that are read from a text or from arguments, beside the outcomes of the rows.
use Rattle.std.specs.Prelude.{◌≡◌, ◌+◌, ◌-◌, ◌||◌, ◌==◌, ℕ, ℤ, cond, nat_lt, List, length, map, Result, Ok, Err, codes}
use Rattle.std.specs.List.{flat_map}
use Rattle.std.specs.declared.alloc.Global.{Global}
use Rattle.std.specs.declared.vec.Vec.{Vec}
use Rattle.int_core.specs.Value.{string, Shape as Seen}
use Rattle.library_rows.specs.Arguments.{bad_argument, integer_argument, one}
use Rattle.library_rows.specs.Codepoints.{code_in, encode, moved}
use Rattle.library_rows.specs.Formats.{then_ok}
use Rattle.library_rows.specs.Plainly.{Outcome, results, error}
use Rattle.library_arguments.specs.declared.plain.Plain.{Plain}
use Rattle.library_arguments.specs.declared.refusal.Fault.{Fault}
use Rattle.library_arguments.specs.declared.refusal.Fault.TheVariants.{Refused, Memory}
use Rattle.library_arguments.specs.Refusals.{refusal_text}
use Rattle.library_arguments.specs.Shapes.{known_of}

-- the values are the results, or the fault's text is the error; want of memory says nothing
abbrev pub IsCodes : Result (Vec Plain Global) Fault → Outcome → Type 0
IsCodes (Ok values) told = told ≡ results (map known_of values.items)
IsCodes (Err (Refused why)) told = told ≡ error (refusal_text why)
IsCodes (Err Memory) told = Unit {0}

-- the bytes of the numbers are the result, or the fault's text is the error
abbrev pub AreCodes : Result (Vec ℕ Global) Fault → Outcome → Type 0
AreCodes (Ok numbers) told = told ≡ one (string (flat_map encode numbers.items))
AreCodes (Err (Refused why)) told = told ≡ error (refusal_text why)
AreCodes (Err Memory) told = Unit {0}

-- the number that an argument of `char` is, or the error's text
abbrev pub code_argument : ℕ → Seen → Result ℕ (List ℕ)
code_argument i s = then_ok (integer_argument (codes "char") i s) (λ n. code_in i n)

-- what `offset` comes to from a place on, which counts from 1
abbrev pub offset_from : List ℕ → ℤ → ℕ → Outcome
offset_from s n at = cond (at == 0 || nat_lt (length s + 1) at) (error (bad_argument 3 (codes "offset") (codes "position out of bounds"))) (moved s n (at - 1))

-- What the functions on UTF-8 answer, beside the definitions of the rows.
use Rattle.std.specs.Prelude.{ℕ, ◌+◌, pos, [], ◌∷◌, Option, Some, None, Result, Ok, Err}
use Rattle.int_core.specs.Value.{nil, integer}
use Rattle.library_rows.specs.Plainly.{Outcome, results, error}
use Rattle.library_rows.specs.Arguments.{one}
use Rattle.library_rows.specs.Codepoints.{Decoded as Code, Lead as First, invalid_code}
use Rattle.utf8_core.specs.declared.decoding.Decoded.{Decoded}
use Rattle.utf8_core.specs.declared.decoding.Lead.{Lead}
use Rattle.utf8_core.specs.declared.walking.Step.{Step}
use Rattle.utf8_core.specs.declared.walking.Step.TheVariants.{End, Invalid, Code as Walked}

abbrev pub told_decoded : Option Decoded → Option Code
told_decoded None = None
told_decoded (Some d) = Some (record { code = d.code; more = d.more })

abbrev pub told_lead : Option Lead → Option First
told_lead None = None
told_lead (Some l) = Some (record { bits = l.bits; more = l.more; least = l.least })

-- how many there are, or nil and the place of the first byte that begins none, from 1
abbrev pub told_count : Result ℕ ℕ → Outcome
told_count (Ok n) = one (integer (pos n))
told_count (Err at) = results (nil ∷ integer (pos (at + 1)) ∷ [])

abbrev pub told_step : ℕ → Step → Outcome
told_step at End = results []
told_step at Invalid = error invalid_code
told_step at (Walked code) = results (integer (pos (at + 1)) ∷ integer (pos code) ∷ [])

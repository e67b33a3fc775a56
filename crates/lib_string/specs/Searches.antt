-- Searches from a place, and what is found.
use Rattle.std.specs.Prelude.{◌≡◌, ℕ, ℤ, Bool, true, false, List, [], ◌∷◌, drop, map, Option, Some, None, Result, Ok, Err}
use Rattle.int_core.specs.Value.{Plain as Known, integer}
use Rattle.library_rows.specs.Look.{Look, gives, refuses, does, make_table, read, written}
use Rattle.library_rows.specs.Plainly.{Outcome}
use Rattle.library_rows.specs.Searches.{Hit as Found, found_match, found_places, found_text, from_place, match_rows, search, text_from, writes}
use Rattle.library_arguments.specs.declared.refusal.Fault.{Fault}
use Rattle.library_arguments.specs.declared.refusal.Fault.TheVariants.{Refused, Memory}
use Rattle.library_arguments.specs.Refusals.{refusal_text}
use Rattle.library_arguments.specs.Shapes.{known_of}
use Rattle.lib_string.specs.declared.seeking.Sought.{Sought}
use Rattle.text_match.specs.declared.hits.Hit.{Hit}

abbrev pub hit_of : Hit → Found
hit_of hit = record { start = hit.start; end = hit.end; captures = hit.captures.items }

-- what `find` comes to in a text s, for a pattern or a plain text p, from the place i on
abbrev pub found_from : List ℕ → List ℕ → ℤ → Bool → Outcome
found_from s p i plain = from_place s i (λ at. elim plain [ true ↦ found_text p (text_from p at (drop at s)) | false ↦ found_places s (search s p at) ])

-- and `match`
abbrev pub matched_from : List ℕ → List ℕ → ℤ → Outcome
matched_from s p i = from_place s i (λ at. found_match s (search s p at))

-- the row that gives a match: its places, and a new table of its values, the first of which is the whole match
abbrev pub gives_values : ℤ → ℤ → List Known → Look
gives_values start next [] = gives []
gives_values start next (all ∷ ps) =
    does make_table [] (λ _. writes (match_rows all ps) (gives (written (integer start) ∷ written (integer next) ∷ read 0 ∷ [])))

-- what `seek` answers is what its row does; want of memory says nothing
abbrev pub IsSought : Result (Option Sought) Fault → Look → Type 0
IsSought (Ok None) row = row ≡ gives []
IsSought (Ok (Some s)) row = row ≡ gives_values s.start s.next (map known_of s.values.items)
IsSought (Err (Refused why)) row = row ≡ refuses (refusal_text why)
IsSought (Err Memory) row = Unit {0}

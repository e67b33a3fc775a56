-- What the searches answer, beside the definitions of the rows.
use Rattle.std.specs.Prelude.{◌≡◌, ◌≤◌, ℕ, List, Option, Some, None, Result, Ok, Err, codes}
use Rattle.lua_pattern.specs.declared.answer.Capture.{Capture}
use Rattle.lua_pattern.specs.declared.answer.PatternFault.{PatternFault}
use Rattle.lua_pattern.specs.declared.answer.PatternFault.TheVariants.{Malformed, TooComplex, Memory}
use Rattle.lua_pattern.specs.Firsts.{IsInside}
use Rattle.library_rows.specs.Searches.{Hit as Found, rule_text}
use Rattle.text_match.specs.declared.hits.Hit.{Hit}

abbrev pub told_hit : Option Hit → Option Found
told_hit None = None
told_hit (Some hit) = Some (record { start = hit.start; end = hit.end; captures = hit.captures.items })

-- a match that begins at a place, by its end and its captures
abbrev pub hit_to : ℕ → Option ℕ → List Capture → Option Found
hit_to at None captures = None
hit_to at (Some end) captures = Some (record { start = at; end = end; captures = captures })

-- a match and its captures lie within so many bytes
pub record IsWithin (length : ℕ) (hit : Hit) : Type 0 where
  pub starts : hit.start ≤ length
  pub inside : IsInside length hit.start hit.end hit.captures.items

-- the text of a pattern's fault; want of memory says nothing
abbrev pub IsRefusedAs : {A : Type 0} → PatternFault → Result A (List ℕ) → Type 0
IsRefusedAs (Malformed rule) told = told ≡ Err (rule_text rule)
IsRefusedAs TooComplex told = told ≡ Err (codes "pattern too complex")
IsRefusedAs Memory told = Unit {0}

abbrev pub IsFound : Result (Option Hit) PatternFault → Result (Option Found) (List ℕ) → Type 0
IsFound (Ok hit) told = told ≡ Ok (told_hit hit)
IsFound (Err fault) told = IsRefusedAs fault told

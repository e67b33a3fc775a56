-- What a search for a pattern at a place answers.
use Rattle.std.specs.Prelude.{◌≡◌, ◌<◌, ℕ, Bool, true, false, nat_lt, if◌then◌else◌, List, [], slice_get, count_by, Option, Some, None, Result, Ok, Err, ⊤}
use Rattle.lua_pattern.specs.declared.answer.Capture.{Capture}
use Rattle.lua_pattern.specs.declared.answer.Match.{Match}
use Rattle.lua_pattern.specs.declared.answer.PatternFault.{PatternFault}
use Rattle.lua_pattern.specs.declared.answer.PatternFault.TheVariants.{Malformed, TooComplex, Memory}
use Rattle.lua_pattern.specs.declared.item.Item.{Item}
use Rattle.lua_pattern.specs.declared.item.Item.TheVariants.{Repeated, Open, Place}
use Rattle.lua_pattern.specs.Ends.{ends}
use Rattle.lua_pattern.specs.Reading.{items_of}
use Rattle.lua_pattern.specs.Ways.{Found}

-- captures and quantifiers count towards the limit of 200
abbrev pub is_counted : Item → Bool
is_counted (Repeated class repeat) = true
is_counted Open = true
is_counted Place = true
is_counted _ = false

-- the first of all the matches of some items at a place
abbrev pub first_found : List ℕ → List Item → ℕ → Option Found
first_found subject items at = slice_get (ends subject items at []) 0

-- the answer for a pattern that is read: a broken rule, too many captures and quantifiers, or the first match
abbrev pub answer_by : List ℕ → Result (List Item) ℕ → ℕ → Result (Option Found) PatternFault
answer_by subject (Err rule) at = Err (Malformed rule)
answer_by subject (Ok items) at =
    if nat_lt 200 (count_by is_counted items) then Err TooComplex else Ok (first_found subject items at)

unfoldable pub answer_of : List ℕ → List ℕ → ℕ → Result (Option Found) PatternFault
answer_of subject pattern at = answer_by subject (items_of pattern) at

-- a match as plain data
abbrev pub found_of : Option Match → Option Found
found_of None = None
found_of (Some found) = Some (record { end = found.end; captures = found.captures.items })

-- a match by its end and its captures
abbrev pub found_to : Option ℕ → List Capture → Option Found
found_to None captures = None
found_to (Some end) captures = Some (record { end = end; captures = captures })

-- an answer is the one that is told, unless memory ran out
abbrev pub IsAnswer : Result (Option Match) PatternFault → Result (Option Found) PatternFault → Type 0
IsAnswer (Ok found) told = told ≡ Ok (found_of found)
IsAnswer (Err (Malformed rule)) told = told ≡ Err (Malformed rule)
IsAnswer (Err TooComplex) told = told ≡ Err TooComplex
IsAnswer (Err Memory) told = ⊤

-- why a pattern is not read: the rule that it breaks, or that it has too many captures and quantifiers, or want of memory
abbrev pub IsFaultOf : PatternFault → Result (List Item) ℕ → Type 0
IsFaultOf (Malformed rule) told = told ≡ Err rule
IsFaultOf TooComplex told = (items : List Item) × (told ≡ Ok items) × (200 < count_by is_counted items)
IsFaultOf Memory told = ⊤

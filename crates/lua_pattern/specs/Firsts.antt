-- What a try to match leaves: the first of a list of matches, or the captures as they were.
use Rattle.std.specs.Prelude.{◌≡◌, ℕ, ◌≤◌, List, [], slice_get, Option, Some, None}
use Rattle.std.specs.List.{All}
use Rattle.lua_pattern.specs.declared.answer.Capture.{Capture}
use Rattle.lua_pattern.specs.declared.answer.Capture.TheVariants.{Text, Position}
use Rattle.lua_pattern.specs.Ways.{Found}

-- the captures before and after, and the end if there is one, tell the first match of a list
abbrev pub IsFirst : List Found → Option ℕ → List Capture → List Capture → Type 0
IsFirst matches None before after = (matches ≡ []) × (after ≡ before)
IsFirst matches (Some end) before after = slice_get matches 0 ≡ Some (record { end = end; captures = after })

-- a capture lies before a place
abbrev pub IsBefore : ℕ → Capture → Type 0
IsBefore place (Text start end) = (start ≤ end) × (end ≤ place)
IsBefore place (Position at) = at ≤ place

abbrev pub AreBefore : ℕ → List Capture → Type 0
AreBefore place captures = All (IsBefore place) captures

-- a match from a place on ends within so many bytes, and its captures lie before its end
abbrev pub IsInside : ℕ → ℕ → ℕ → List Capture → Type 0
IsInside length at end captures = (at ≤ end) × (end ≤ length) × AreBefore end captures

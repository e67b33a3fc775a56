-- The lines of an input: each ends before a line feed or at the end. What is said of a reader of lines.
use Rattle.std.specs.Prelude.{◌≡◌, ◌≢◌, ◌+◌, ◌^◌, ◌<◌, ◌≤◌, ◌++◌, ◌==◌, ◌⊎◌, ℕ, Bool, true, false, List, [], ◌∷◌, Option, None, Some, Result, Ok, Err, All, IfSome, length, if◌then◌else◌}
use Rattle.std.specs.Option.{option_map}
use Rattle.io_edge.specs.declared.lines.LineFault.{LineFault}
use Rattle.io_edge.specs.declared.lines.LineFault.TheVariants.{Failed, Limit, Memory}

-- the lines, with this byte put before the first of them
abbrev pub lengthened : ℕ → List (List ℕ) → List (List ℕ)
lengthened byte [] = (byte ∷ []) ∷ []
lengthened byte (line ∷ lines) = (byte ∷ line) ∷ lines

-- the lines of a text, without their line feeds; no empty line stands after a last line feed
unfoldable pub lines_of : List ℕ → List (List ℕ)
lines_of [] = []
lines_of (byte ∷ bytes) = if byte == 10 then [] ∷ lines_of bytes else lengthened byte (lines_of bytes)

-- no byte is a line feed
abbrev pub IsUnbroken : List ℕ → Type 0
IsUnbroken bytes = All (λ byte. byte ≢ 10) bytes

-- A reader of lines: the bytes that it has read ahead, and how many bytes stand before the next line.
pub record Unread : Type 0 where
  pub pending : List ℕ
  pub taken : ℕ

-- all bytes that are still to be given as lines, where the source tells those that it has left
abbrev pub ahead : Unread → Option (List ℕ) → Option (List ℕ)
ahead reader left = option_map (λ rest. reader.pending ++ rest) left

-- The next line was taken from the text before, or there was no byte left.
abbrev pub TakesLine : Option (List ℕ) → Option (List ℕ) → Option (List ℕ) → Type 0
TakesLine None before now = (now ≡ before) × IfSome before (λ text. text ≡ [])
TakesLine (Some line) before now = option_map lines_of before ≡ option_map (λ text. line ∷ lines_of text) now

-- how many bytes stand before the next line, once a line or none was taken; behind a last line without a line feed
-- there is no next one
abbrev pub taken_with : ℕ → Option (List ℕ) → ℕ
taken_with taken None = taken
taken_with taken (Some line) = taken + length line + 1

-- a line has at most 1,048,576 bytes, and the input up to its end at most 2^30
pub record IsWithinLimits (taken : ℕ) (line : List ℕ) : Type 0 where
  pub short_line : length line ≤ 2 ^ 20
  pub short_input : taken + length line ≤ 2 ^ 30

-- a line has more bytes than that, or the input up to its end has
abbrev pub IsPastLimits : ℕ → List ℕ → Type 0
IsPastLimits taken line = (2 ^ 20 < length line) ⊎ (2 ^ 30 < taken + length line)

-- the first line of the text is past the limits
abbrev pub BeginsPastLimits : ℕ → List ℕ → Type 0
BeginsPastLimits taken text = (line : List ℕ) × (lines : List (List ℕ)) × (lines_of text ≡ line ∷ lines) × IsPastLimits taken line

-- whether the reading of a line answers that the source failed
abbrev pub is_line_failed : {T : Type 0} → Result T LineFault → Bool
is_line_failed (Ok value) = false
is_line_failed (Err Failed) = true
is_line_failed (Err Limit) = false
is_line_failed (Err Memory) = false

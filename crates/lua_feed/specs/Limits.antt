-- The lines of an input that may be handed over: those before the first that is past the limits of lines.
use Rattle.std.specs.Prelude.{ℕ, ◌+◌, ◌^◌, Bool, false, ◌&&◌, ◌||◌, not, nat_le, if◌then◌else◌, List, [], ◌∷◌, length}
use Rattle.io_edge.specs.Lines.{lines_of}

-- a line has at most 1,048,576 bytes, and the input up to its end at most 2^30, where so many bytes stand before the line
abbrev pub is_within : (taken : ℕ) → List ℕ → Bool
is_within taken line = nat_le (length line) (2 ^ 20) && nat_le (taken + length line) (2 ^ 30)

abbrev pub lines_within : (taken : ℕ) → List (List ℕ) → List (List ℕ)
lines_within taken [] = []
lines_within taken (line ∷ lines) = if is_within taken line then line ∷ lines_within (taken + length line + 1) lines else []

-- one of the lines is past the limits
abbrev pub pass_limits : (taken : ℕ) → List (List ℕ) → Bool
pass_limits taken [] = false
pass_limits taken (line ∷ lines) = not (is_within taken line) || pass_limits (taken + length line + 1) lines

-- the same of the lines of a text

abbrev pub usable_lines : (taken : ℕ) → List ℕ → List (List ℕ)
usable_lines taken text = lines_within taken (lines_of text)

abbrev pub passes_limits : (taken : ℕ) → List ℕ → Bool
passes_limits taken text = pass_limits taken (lines_of text)

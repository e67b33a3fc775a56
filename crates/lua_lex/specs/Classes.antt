-- Classes of bytes, and the ends of lines in a text (Lua 5.4 manual, 3.1).
-- Bytes stand by their numbers: `.` is 46, `/` 47, `:` 58, `<` 60, `=` 61, `>` 62 and `_` 95.
use Rattle.std.specs.Prelude.{ℕ, ◌+◌, Bool, ◌==◌, ◌||◌, ◌&&◌, not, List, [], ◌∷◌, drop, slice_index, if◌then◌else◌}
use Rattle.std.specs.Char.{is_ascii_alphabetic, is_ascii_digit, is_digit}

-- `\n` and `\r`
abbrev pub is_line_end : ℕ → Bool
is_line_end byte = byte == 10 || byte == 13

-- a letter or `_`
abbrev pub is_name_start : ℕ → Bool
is_name_start byte = is_ascii_alphabetic byte || byte == 95

abbrev pub is_name_byte : ℕ → Bool
is_name_byte byte = is_name_start byte || is_ascii_digit byte

-- what a numeral goes on with
abbrev pub is_numeral_byte : ℕ → Bool
is_numeral_byte byte = is_name_byte byte || byte == 46

abbrev pub is_hex_digit : ℕ → Bool
is_hex_digit byte = is_digit byte 16

-- the sign `=` of a long bracket
abbrev pub is_equals : ℕ → Bool
is_equals byte = byte == 61

-- what a mark of more bytes than one goes on with
abbrev pub is_in_mark : ℕ → Bool
is_in_mark byte = byte == 46 || (byte == 47 || (byte == 58 || (byte == 60 || (byte == 61 || byte == 62))))

-- two different bytes of `\n` and `\r` are one end of line
abbrev pub is_pair : ℕ → ℕ → Bool
is_pair byte next = is_line_end next && not (next == byte)

-- how many bytes the end of line has that a text begins with
abbrev pub end_len : List ℕ → ℕ
end_len text = if is_pair (slice_index text 0) (slice_index text 1) then 2 else 1

-- how many ends of lines a text has: `\n`, `\r`, `\r\n` and `\n\r` each count as one
abbrev pub line_ends : List ℕ → ℕ
line_ends [] = 0
line_ends (byte ∷ []) = if is_line_end byte then 1 else 0
line_ends (byte ∷ next ∷ text) =
    if is_line_end byte then (if is_pair byte next then 1 + line_ends text else 1 + line_ends (next ∷ text))
    else line_ends (next ∷ text)

-- a text with each end of line read as `\n`
abbrev pub read_lines : List ℕ → List ℕ
read_lines [] = []
read_lines (byte ∷ []) = (if is_line_end byte then 10 else byte) ∷ []
read_lines (byte ∷ next ∷ text) =
    if is_line_end byte then 10 ∷ (if is_pair byte next then read_lines text else read_lines (next ∷ text))
    else byte ∷ read_lines (next ∷ text)

-- a text without the end of line that it begins with, if it does
abbrev pub behind_line_end : List ℕ → List ℕ
behind_line_end text = if is_line_end (slice_index text 0) then drop (end_len text) text else text

-- Literal strings between quotes, and their escapes (Lua 5.4 manual, 3.1).
-- Bytes stand by their numbers: `"` is 34, `'` 39, `\` 92, `{` 123, `}` 125, and the letters `a` to `z` are 97 to 122.
use Rattle.std.specs.Prelude.{◌≡◌, ℕ, ◌+◌, ◌*◌, ◌<◌, ◌^◌, true, ◌==◌, List, [], ◌∷◌, ◌++◌, length, take, drop, min, slice_index, Option, Some, None, if◌then◌else◌}
use Rattle.std.specs.List.{prefix_len}
use Rattle.std.specs.Char.{is_ascii_digit, digit_value}
use Rattle.std.specs.Str.Parse.{digits_value}
use Rattle.int_core.specs.Numeral.{is_space}
use Rattle.lua_lex.specs.declared.escape.Escape.{Escape}
use Rattle.lua_lex.specs.declared.escape.Escape.TheVariants.{Letter, LineEnd, Space, Hexadecimal, Decimal, Unicode, Unknown}
use Rattle.lua_lex.specs.declared.escape.Meaning.{Meaning}
use Rattle.lua_lex.specs.declared.escape.Meaning.TheVariants.{Nothing, Byte, Character}
use Rattle.lua_lex.specs.declared.quoted.Element.{Element}
use Rattle.lua_lex.specs.declared.quoted.Element.TheVariants.{Close, Backslash, Plain, Unfinished}
use Rattle.lua_lex.specs.Classes.{is_line_end, end_len, is_hex_digit}
use Rattle.lua_lex.specs.Utf8.{extended_utf8}

-- what stands for itself behind a backslash, or for a control byte
abbrev pub letter_value : ℕ → Option ℕ
letter_value byte =
    if byte == 97 then Some 7
    else if byte == 98 then Some 8
    else if byte == 102 then Some 12
    else if byte == 110 then Some 10
    else if byte == 114 then Some 13
    else if byte == 116 then Some 9
    else if byte == 118 then Some 11
    else if byte == 92 then Some 92
    else if byte == 34 then Some 34
    else if byte == 39 then Some 39
    else None

abbrev pub other_escape : ℕ → Escape
other_escape byte =
    if is_line_end byte then LineEnd
    else if byte == 122 then Space
    else if byte == 120 then Hexadecimal
    else if is_ascii_digit byte then Decimal
    else if byte == 117 then Unicode
    else Unknown

abbrev pub letter_or : Option ℕ → Escape → Escape
letter_or (Some value) other = Letter value
letter_or None other = other

-- what a byte behind a backslash begins
unfoldable pub escape_of : ℕ → Escape
escape_of byte = letter_or (letter_value byte) (other_escape byte)

-- how many digits a decimal escape has
abbrev pub decimal_len : List ℕ → ℕ
decimal_len text = min (prefix_len is_ascii_digit text) 3

-- how many digits stand behind `u{`
abbrev pub unicode_len : List ℕ → ℕ
unicode_len text = prefix_len is_hex_digit (drop 2 text)

-- the number behind `u{`
abbrev pub unicode_value : List ℕ → ℕ
unicode_value text = digits_value 16 (take (unicode_len text) (drop 2 text))

-- `u{`, at least one digit with a value below 2 ^ 31, and `}`
pub record IsUnicode (text : List ℕ) : Type 0 where
  pub opens : slice_index text 1 ≡ 123
  pub digits : 0 < unicode_len text
  pub closes : slice_index text (2 + unicode_len text) ≡ 125
  pub small : unicode_value text < 2 ^ 31

-- The text behind a backslash begins with an escape of this meaning, and the rest follows it.
abbrev pub IsEscapeOf : Escape → List ℕ → Meaning → List ℕ → Type 0
IsEscapeOf (Letter value) text meaning rest = (meaning ≡ Byte value) × (rest ≡ drop 1 text)
IsEscapeOf LineEnd text meaning rest = (meaning ≡ Byte 10) × (rest ≡ drop (end_len text) text)
IsEscapeOf Space text meaning rest = (meaning ≡ Nothing) × (rest ≡ drop (1 + prefix_len is_space (drop 1 text)) text)
IsEscapeOf Hexadecimal text meaning rest =
    (is_hex_digit (slice_index text 1) ≡ true) × (is_hex_digit (slice_index text 2) ≡ true)
    × (meaning ≡ Byte (digit_value (slice_index text 1) * 16 + digit_value (slice_index text 2))) × (rest ≡ drop 3 text)
IsEscapeOf Decimal text meaning rest =
    (digits_value 10 (take (decimal_len text) text) < 256)
    × (meaning ≡ Byte (digits_value 10 (take (decimal_len text) text))) × (rest ≡ drop (decimal_len text) text)
IsEscapeOf Unicode text meaning rest =
    IsUnicode text × (meaning ≡ Character (unicode_value text)) × (rest ≡ drop (3 + unicode_len text) text)
IsEscapeOf Unknown text meaning rest = ⊥

abbrev pub IsEscape : List ℕ → Meaning → List ℕ → Type 0
IsEscape text meaning rest = IsEscapeOf (escape_of (slice_index text 0)) text meaning rest

-- the bytes of a meaning
abbrev pub meaning_bytes : Meaning → List ℕ
meaning_bytes Nothing = []
meaning_bytes (Byte value) = value ∷ []
meaning_bytes (Character value) = extended_utf8 value

-- what stands at the front of a text that is in such quotes
unfoldable pub element_of : ℕ → List ℕ → Element
element_of quote text =
    if length text == 0 then Unfinished
    else if slice_index text 0 == quote then Close
    else if slice_index text 0 == 92 then Backslash
    else if is_line_end (slice_index text 0) then Unfinished
    else Plain

-- The text begins with an element of a string that stands for these bytes, and the rest follows it.
abbrev pub IsElementOf : Element → List ℕ → List ℕ → List ℕ → Type 0
IsElementOf Plain text bytes rest = (bytes ≡ slice_index text 0 ∷ []) × (rest ≡ drop 1 text)
IsElementOf Backslash text bytes rest = (meaning : Meaning) × IsEscape (drop 1 text) meaning rest × (bytes ≡ meaning_bytes meaning)
IsElementOf _ text bytes rest = ⊥

-- The text behind an opening quote has this content up to the closing one, and then comes the rest.
pub data Quoted : ℕ → List ℕ → List ℕ → List ℕ → Type 0 where
  closes : {quote : ℕ} {text : List ℕ} → element_of quote text ≡ Close → Quoted quote text [] (drop 1 text)
  goes_on : {quote : ℕ} {text content rest : List ℕ} (between bytes : List ℕ) →
      IsElementOf (element_of quote text) text bytes between → Quoted quote between content rest →
      Quoted quote text (bytes ++ content) rest

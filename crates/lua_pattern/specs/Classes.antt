-- Which bytes the classes behind `%` take in, as ASCII has them (Lua 5.4 manual, 6.4.1, "Character Class").
use Rattle.std.specs.Prelude.{ℕ, ◌+◌, Bool, ◌==◌, ◌&&◌, ◌||◌, not, nat_le, if◌then◌else◌, Option, Some, None}
use Rattle.lua_pattern.specs.declared.class.Kind.{Kind}
use Rattle.lua_pattern.specs.declared.class.Kind.TheVariants.{Letter, Control, Digit, Graphic, Lower, Punctuation, Space, Upper, Alphanumeric, Hexadecimal}
use Rattle.lua_pattern.specs.declared.class.Part.{Part}
use Rattle.lua_pattern.specs.declared.class.Part.TheVariants.{Byte, Range, Of, NotOf}

abbrev pub is_between : ℕ → ℕ → ℕ → Bool
is_between low high byte = nat_le low byte && nat_le byte high

-- a byte is of a kind: 48 to 57 are the digits, 65 to 90 and 97 to 122 the letters, 33 to 126 what is printed and no space
unfoldable pub kind_has : Kind → ℕ → Bool
kind_has Letter byte = is_between 65 90 byte || is_between 97 122 byte
kind_has Control byte = is_between 0 31 byte || (byte == 127)
kind_has Digit byte = is_between 48 57 byte
kind_has Graphic byte = is_between 33 126 byte
kind_has Lower byte = is_between 97 122 byte
kind_has Punctuation byte =
    is_between 33 126 byte && not (is_between 48 57 byte || is_between 65 90 byte || is_between 97 122 byte)
kind_has Space byte = is_between 9 13 byte || (byte == 32)
kind_has Upper byte = is_between 65 90 byte
kind_has Alphanumeric byte = is_between 48 57 byte || is_between 65 90 byte || is_between 97 122 byte
kind_has Hexadecimal byte = is_between 48 57 byte || is_between 65 70 byte || is_between 97 102 byte

-- the kind that a letter names: a, c, d, g, l, p, s, u, w and x
abbrev pub kind_of : ℕ → Option Kind
kind_of letter =
    if letter == 97 then Some Letter else
    if letter == 99 then Some Control else
    if letter == 100 then Some Digit else
    if letter == 103 then Some Graphic else
    if letter == 108 then Some Lower else
    if letter == 112 then Some Punctuation else
    if letter == 115 then Some Space else
    if letter == 117 then Some Upper else
    if letter == 119 then Some Alphanumeric else
    if letter == 120 then Some Hexadecimal else None

-- a lower-case letter takes in its kind, the upper-case letter all other bytes, and what names no kind itself
abbrev pub part_named : ℕ → Part
part_named byte = lower_case (kind_of byte) (if is_between 65 90 byte then kind_of (byte + 32) else None) where
  lower_case : Option Kind → Option Kind → Part
  lower_case (Some kind) other = Of kind
  lower_case None (Some kind) = NotOf kind
  lower_case None None = Byte byte

abbrev pub part_has : Part → ℕ → Bool
part_has (Byte own) byte = own == byte
part_has (Range low high) byte = is_between low high byte
part_has (Of kind) byte = kind_has kind byte
part_has (NotOf kind) byte = not (kind_has kind byte)

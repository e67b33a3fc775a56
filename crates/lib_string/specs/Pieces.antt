-- The pieces of a format, as the rows see them, and how they are filled in.
use Rattle.std.specs.Prelude.{◌≡◌, ◌≤◌, ◌<◌, ◌+◌, ◌-◌, ◌==◌, ℕ, Bool, true, false, not, nat_le, List, [], ◌∷◌, ◌++◌, length, map, Option, Some, None, Result, Ok, Err}
use Rattle.std.specs.declared.alloc.Global.{Global}
use Rattle.std.specs.declared.vec.Vec.{Vec}
use Rattle.int_core.specs.Value.{Shape as Seen, greatest_string}
use Rattle.library_rows.specs.Arguments.{argument}
use Rattle.library_rows.specs.Formats.{Piece as Part, Read as Reading, Sort as Kind, converts, invalid, is_decimal, literal, conversion, broken, pieces, in_decimal, in_base, a_byte, a_text, quoted}
use Rattle.library_rows.specs.Plainly.{too_large}
use Rattle.text_format.specs.Told.{base_of, is_upper, told_conversion}
use Rattle.library_arguments.specs.declared.refusal.Fault.{Fault}
use Rattle.library_arguments.specs.declared.refusal.Fault.TheVariants.{Refused, Memory}
use Rattle.library_arguments.specs.declared.refusal.Refusal.{Refusal}
use Rattle.library_arguments.specs.Refusals.{refusal_text}
use Rattle.lib_string.specs.declared.format_reading.Next.{Next}
use Rattle.lib_string.specs.declared.format_reading.Piece.{Piece}
use Rattle.lib_string.specs.declared.format_reading.Piece.TheVariants as a_piece
use Rattle.lib_string.specs.declared.format_reading.Read.{Read}
use Rattle.lib_string.specs.declared.formatting.Sort.{Sort}
use Rattle.lib_string.specs.declared.formatting.Sort.TheVariants.{Decimal, InBase, Byte, Text, Quoted}

-- the pieces of the definition that are read at once
abbrev pub parts_of : Piece → List Part
parts_of (a_piece.Literal b) = literal b ∷ []
parts_of (a_piece.Literals bytes) = map literal bytes.now
parts_of (a_piece.Conversion c) = conversion (told_conversion c) ∷ []
parts_of a_piece.Broken = broken ∷ []

-- a byte that stands for itself wherever it stands
abbrev pub is_literal : ℕ → Bool
is_literal b = not (b == 37)

abbrev pub told_read : Option Read → Option Reading
told_read None = None
told_read (Some r) = Some (record { conversion = told_conversion r.conversion; size = r.size })

-- the digit that a text begins with
abbrev pub first_digit : List ℕ → Option ℕ
first_digit [] = None
first_digit (b ∷ text) = elim (is_decimal b) [ true ↦ Some (b - 48) | false ↦ None ]

-- the first piece of a format and what follows it, which is shorter
abbrev pub IsNext : Option Next → List ℕ → Type 0
IsNext None text = text ≡ []
IsNext (Some n) text = (pieces 0 text ≡ parts_of n.piece ++ pieces 0 n.rest.now) × (length n.rest.now < length text)

abbrev pub sort_told : Sort → Kind
sort_told Decimal = in_decimal
sort_told (InBase base) = in_base (base_of base) (is_upper base)
sort_told Byte = a_byte
sort_told Text = a_text
sort_told Quoted = quoted

abbrev pub told_sort : Option Sort → Option Kind
told_sort None = None
told_sort (Some sort) = Some (sort_told sort)

-- the letter of a conversion
abbrev pub letter_in : Piece → List ℕ
letter_in (a_piece.Conversion c) = c.letter ∷ []
letter_in _ = []

-- the text that a piece comes to, where the next argument has the number i, and the number of the one behind
abbrev pub piece_text : Piece → List Seen → ℕ → Result (List ℕ) (List ℕ)
piece_text (a_piece.Literal b) ss i = Ok (b ∷ [])
piece_text (a_piece.Literals bytes) ss i = Ok bytes.now
piece_text (a_piece.Conversion c) ss i = converts (told_conversion c) i (argument ss i)
piece_text a_piece.Broken ss i = Err invalid

abbrev pub next_place : Piece → ℕ → ℕ
next_place (a_piece.Conversion c) i = i + 1
next_place _ i = i

-- a text with another one behind it
abbrev pub with_more : List ℕ → Result (List ℕ) (List ℕ) → Result (List ℕ) (List ℕ)
with_more text (Ok bytes) = Ok (text ++ bytes)
with_more text (Err why) = Err why

-- the same within the limit on strings
abbrev pub with_room : List ℕ → Result (List ℕ) (List ℕ) → Result (List ℕ) (List ℕ)
with_room text (Ok bytes) = elim (nat_le (length text + length bytes) greatest_string) [ true ↦ Ok (text ++ bytes) | false ↦ Err too_large ]
with_room text (Err why) = Err why

-- the text is the one that is told, or the fault's text is the error; want of memory says nothing
abbrev pub IsText : {A : Type 0} → Result A Fault → List ℕ → Result (List ℕ) (List ℕ) → Type 0
IsText (Ok x) text told = told ≡ Ok text
IsText (Err (Refused why)) text told = told ≡ Err (refusal_text why)
IsText (Err Memory) text told = Unit {0}

abbrev pub IsFilled : Result (Vec ℕ Global) Fault → Result (List ℕ) (List ℕ) → Type 0
IsFilled (Ok text) told = told ≡ Ok text.items
IsFilled (Err (Refused why)) told = told ≡ Err (refusal_text why)
IsFilled (Err Memory) told = Unit {0}

-- a text of so many bytes is within the limit, or the error is that it is not
abbrev pub IsShort : {A : Type 0} → Result A Refusal → ℕ → Type 0
IsShort (Ok x) len = len ≤ greatest_string
IsShort (Err why) len = (greatest_string < len) × (refusal_text why ≡ too_large)

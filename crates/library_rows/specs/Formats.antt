-- `string.format` (Lua 5.4 manual, 6.4): the letters of its conversions, and the text that is filled in.
use Rattle.std.specs.Prelude.{ℕ, zero, suc, ◌+◌, ◌-◌, ◌%◌, ◌^◌, ℤ, pos, negsuc, Bool, true, false, cond, ◌&&◌, ◌||◌, ◌==◌, not, nat_le, nat_lt, min, List, [], ◌∷◌, ◌++◌, length, take, drop, Option, Some, None, Result, Ok, Err, codes, decimal}
use Rattle.std.specs.Fmt.{digits}
use Rattle.std.specs.Int.{w64, cast_unsigned}
use Rattle.std.specs.List.{list_all, list_any, repeat, prefix_len}
use Rattle.int_core.specs.Numeral.{digits_value}
use Rattle.int_core.specs.Operations.{integer_text}
use Rattle.int_core.specs.Value.{nil, boolean, integer, string, primitive, Shape, is_known, is_object, greatest_string}
use Rattle.library_rows.specs.Plainly.{Outcome, too_large}
use Rattle.library_rows.specs.Arguments.{argument, integer_argument, text_argument, with, one}

-- Reading a format.

-- `%`, flags, a width, a precision and a letter; a width or precision of no digits is 0
pub record Conversion : Type 0 where
  pub flags : List ℕ
  pub width : Option ℕ
  pub precision : Option ℕ
  pub letter : ℕ

-- a byte for itself, a conversion, or a `%` that no letter ends
pub data Piece : Type 0 where
  literal : ℕ → Piece
  conversion : Conversion → Piece
  broken : Piece

-- `-`, `+`, a space, `#` and `0`
abbrev pub is_flag : ℕ → Bool
is_flag b = list_any (λ c. c == b) (codes "-+ #0")

abbrev pub is_decimal : ℕ → Bool
is_decimal b = nat_le 48 b && nat_le b 57

-- how many digits a number takes: at most two
abbrev pub number_len : List ℕ → ℕ
number_len text = min 2 (prefix_len is_decimal text)

abbrev pub number_at : List ℕ → ℕ
number_at text = digits_value 10 (take (number_len text) text)

-- a conversion, and how many bytes it takes after its `%`
pub record Read : Type 0 where
  pub conversion : Conversion
  pub size : ℕ

abbrev pub with_letter : List ℕ → Option ℕ → Option ℕ → ℕ → List ℕ → Option Read
with_letter flags width precision size [] = None
with_letter flags width precision size (letter ∷ text) =
    Some (record { conversion = record { flags = flags; width = width; precision = precision; letter = letter }; size = size + 1 })

abbrev pub with_precision : List ℕ → Option ℕ → ℕ → List ℕ → Option Read
with_precision flags width size [] = None
with_precision flags width size (b ∷ text) = elim (b == 46) [
  | true ↦ with_letter flags width (Some (number_at text)) (size + 1 + number_len text) (drop (number_len text) text)
  | false ↦ with_letter flags width None size (b ∷ text)
]

abbrev pub with_width : List ℕ → ℕ → List ℕ → Option Read
with_width flags size text = elim (number_len text) [
  | zero ↦ with_precision flags None size text
  | suc n ↦ with_precision flags (Some (number_at text)) (size + suc n) (drop (suc n) text)
]

abbrev pub read_conversion : List ℕ → Option Read
read_conversion text = with_width (take (prefix_len is_flag text) text) (prefix_len is_flag text) (drop (prefix_len is_flag text) text)

-- the pieces of a format, where so many bytes belong to the piece before; nothing is read after a broken one
abbrev pub pieces : ℕ → List ℕ → List Piece
pieces more [] = []
pieces (suc more) (b ∷ text) = pieces more text
pieces zero (b ∷ text) = elim (b == 37) [
  | false ↦ literal b ∷ pieces zero text
  | true ↦ elim (prefix_len (λ c. c == 37) (take 1 text)) [
    | suc one ↦ literal 37 ∷ pieces 1 text
    | zero ↦ elim (read_conversion text) [ None ↦ broken ∷ [] | Some c ↦ conversion c.conversion ∷ pieces c.size text ]
  ]
]

abbrev pub letters : List Piece → List ℕ
letters [] = []
letters (literal b ∷ ps) = letters ps
letters (conversion c ∷ ps) = c.letter ∷ letters ps
letters (broken ∷ ps) = letters ps

-- Filling in.

abbrev pub invalid : List ℕ
invalid = codes "invalid conversion to 'format'"

-- the flags of each letter, and whether it has a precision; `q` has nothing between `%` and itself
pub record Allowed : Type 0 where
  pub flags : List ℕ
  pub width : Bool
  pub precision : Bool

abbrev pub allows : List ℕ → Bool → Bool → Allowed
allows flags width precision = record { flags = flags; width = width; precision = precision }

-- what a letter converts
pub data Sort : Type 0 where
  in_decimal : Sort
  in_base : (base : ℕ) → (upper : Bool) → Sort
  a_byte : Sort
  a_text : Sort
  quoted : Sort

abbrev pub sort_of : ℕ → Option Sort
sort_of letter =
    cond (letter == 100 || letter == 105) (Some in_decimal)
    (cond (letter == 117) (Some (in_base 10 false))
    (cond (letter == 111) (Some (in_base 8 false))
    (cond (letter == 120) (Some (in_base 16 false))
    (cond (letter == 88) (Some (in_base 16 true))
    (cond (letter == 99) (Some a_byte)
    (cond (letter == 115) (Some a_text)
    (cond (letter == 113) (Some quoted) None)))))))

abbrev pub allowed : Sort → Allowed
allowed in_decimal = allows (codes "-+0 ") true true
allowed (in_base base upper) = elim (base == 10) [ true ↦ allows (codes "-0") true true | false ↦ allows (codes "-#0") true true ]
allowed a_byte = allows (codes "-") true false
allowed a_text = allows (codes "-") true true
allowed quoted = allows [] false false

abbrev pub has : List ℕ → ℕ → Bool
has flags flag = list_any (λ f. f == flag) flags

abbrev pub is_missing : Option ℕ → Bool
is_missing None = true
is_missing (Some n) = false

abbrev pub is_allowed : Allowed → Conversion → Bool
is_allowed a c = list_all (λ f. has a.flags f) c.flags && (a.width || is_missing c.width) && (a.precision || is_missing c.precision)

abbrev pub or_zero : Option ℕ → ℕ
or_zero None = 0
or_zero (Some n) = n

-- a sign or `0x`, and what follows it, in the width: to the left with `-`, after zeros with `0`, else to the right
abbrev pub in_width : Conversion → (zeros : Bool) → List ℕ → List ℕ → List ℕ
in_width c zeros before body =
    cond (has c.flags 45) (before ++ body ++ repeat (or_zero c.width - length (before ++ body)) (32 ∷ []))
    (cond zeros (before ++ repeat (or_zero c.width - length (before ++ body)) (48 ∷ []) ++ body)
    (repeat (or_zero c.width - length (before ++ body)) (32 ∷ []) ++ before ++ body))

-- `0` counts for nothing beside a precision
abbrev pub in_zeros : Conversion → Bool
in_zeros c = has c.flags 48 && is_missing c.precision

-- at least as many digits as the precision says; 0 has none at a precision of 0
abbrev pub with_digits : Option ℕ → List ℕ → ℕ → List ℕ
with_digits None ds n = ds
with_digits (Some zero) ds zero = []
with_digits (Some least) ds n = repeat (least - length ds) (48 ∷ []) ++ ds

abbrev pub sign_before : Conversion → ℤ → List ℕ
sign_before c (negsuc n) = codes "-"
sign_before c (pos n) = cond (has c.flags 43) (codes "+") (cond (has c.flags 32) (codes " ") [])

abbrev pub size_of : ℤ → ℕ
size_of (pos n) = n
size_of (negsuc n) = n + 1

abbrev pub signed_text : Conversion → ℤ → List ℕ
signed_text c n = in_width c (in_zeros c) (sign_before c n) (with_digits c.precision (decimal (size_of n)) (size_of n))

-- `#`: a first `0` in base 8, `0x` or `0X` in base 16 but for 0
abbrev pub octal_mark : List ℕ → List ℕ
octal_mark [] = codes "0"
octal_mark (d ∷ ds) = cond (d == 48) (d ∷ ds) (48 ∷ d ∷ ds)

abbrev pub hexadecimal_mark : Bool → ℕ → List ℕ
hexadecimal_mark upper zero = []
hexadecimal_mark upper n = cond upper (codes "0X") (codes "0x")

abbrev pub unsigned_text : Conversion → ℕ → Bool → ℕ → List ℕ
unsigned_text c base upper n =
    let ds = with_digits c.precision (digits base upper n) n in
    cond (not (has c.flags 35)) (in_width c (in_zeros c) [] ds)
    (cond (base == 8) (in_width c (in_zeros c) [] (octal_mark ds)) (in_width c (in_zeros c) (hexadecimal_mark upper n) ds))

abbrev pub shortened : Option ℕ → List ℕ → List ℕ
shortened None s = s
shortened (Some n) s = take n s

-- Literals.

abbrev pub before_digit : List ℕ → Bool
before_digit [] = false
before_digit (b ∷ text) = is_decimal b

abbrev pub is_control : ℕ → Bool
is_control b = nat_lt b 32 || b == 127

-- a `\` before `"`, `\` and the end of a line, and a control byte as its number, of three digits before a digit
abbrev pub quoted_bytes : List ℕ → List ℕ
quoted_bytes [] = []
quoted_bytes (b ∷ text) =
    cond (b == 34 || b == 92 || b == 10) (92 ∷ b ∷ quoted_bytes text)
    (cond (not (is_control b)) (b ∷ quoted_bytes text)
    (cond (before_digit text) (92 ∷ repeat (3 - length (decimal b)) (48 ∷ []) ++ decimal b ++ quoted_bytes text)
    (92 ∷ decimal b ++ quoted_bytes text)))

abbrev pub no_literal : List ℕ
no_literal = codes "value has no literal form"

abbrev pub quoted_integer : ℤ → List ℕ
quoted_integer (pos n) = decimal n
quoted_integer (negsuc n) = cond (n + 1 == 2 ^ 63) (codes "0x8000000000000000") (integer_text (negsuc n))

abbrev pub quote : Shape → Result (List ℕ) (List ℕ)
quote (is_known nil) = Ok (codes "nil")
quote (is_known (boolean true)) = Ok (codes "true")
quote (is_known (boolean false)) = Ok (codes "false")
quote (is_known (integer n)) = Ok (quoted_integer n)
quote (is_known (string s)) = Ok (codes "\"" ++ quoted_bytes s ++ codes "\"")
quote (is_known (primitive n)) = Err no_literal
quote (is_object kind) = Err no_literal

-- The whole text.

abbrev pub then_ok : {A B : Type 0} → Result A (List ℕ) → (A → Result B (List ℕ)) → Result B (List ℕ)
then_ok (Ok x) k = k x
then_ok (Err text) k = Err text

-- an integer modulo 256, as one byte
abbrev pub byte_text : ℤ → List ℕ
byte_text n = (cast_unsigned w64 n % 256) ∷ []

-- argument i by a conversion
abbrev pub converted : Sort → Conversion → ℕ → Shape → Result (List ℕ) (List ℕ)
converted in_decimal c i s = then_ok (integer_argument (codes "format") i s) (λ n. Ok (signed_text c n))
converted (in_base base upper) c i s = then_ok (integer_argument (codes "format") i s) (λ n. Ok (unsigned_text c base upper (cast_unsigned w64 n)))
converted a_byte c i s = then_ok (integer_argument (codes "format") i s) (λ n. Ok (in_width c false [] (byte_text n)))
converted a_text c i s = then_ok (text_argument (codes "format") i s) (λ text. Ok (in_width c false [] (shortened c.precision text)))
converted quoted c i s = quote s

abbrev pub converts : Conversion → ℕ → Shape → Result (List ℕ) (List ℕ)
converts c i s = elim (sort_of c.letter) [
  | None ↦ Err invalid
  | Some sort ↦ elim (is_allowed (allowed sort) c) [ true ↦ converted sort c i s | false ↦ Err invalid ]
]

-- a text and what follows it in so many bytes; the first text that has no room is the error
abbrev pub onto : ℕ → List ℕ → (ℕ → Result (List ℕ) (List ℕ)) → Result (List ℕ) (List ℕ)
onto room text rest = elim (nat_le (length text) room) [ true ↦ then_ok (rest (room - length text)) (λ more. Ok (text ++ more)) | false ↦ Err too_large ]

-- the pieces filled in from the arguments, where the next one has the number i
abbrev pub filled_in : List Piece → List Shape → ℕ → ℕ → Result (List ℕ) (List ℕ)
filled_in [] ss i room = Ok []
filled_in (literal b ∷ ps) ss i room = onto room (b ∷ []) (λ left. filled_in ps ss i left)
filled_in (conversion c ∷ ps) ss i room = then_ok (converts c i (argument ss i)) (λ text. onto room text (λ left. filled_in ps ss (i + 1) left))
filled_in (broken ∷ ps) ss i room = Err invalid

-- the format is the first argument
abbrev pub layout_row : List Shape → Outcome
layout_row ss = with (text_argument (codes "format") 1 (argument ss 1)) (λ f. with (filled_in (pieces 0 f) ss 2 greatest_string) (λ text. one (string text)))

abbrev pub kinds_row : List Shape → Outcome
kinds_row ss = with (text_argument (codes "format") 1 (argument ss 1)) (λ f. one (string (letters (pieces 0 f))))

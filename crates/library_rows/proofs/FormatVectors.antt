-- Vectors of `string.format`. What is expected is what the Lua 5.4 manual says, or what `lua5.4` gives.
use Rattle.std.proofs.Common.{◌≡◌, [], ◌∷◌, refl}
use Rattle.std.specs.Fmt.{digits}
use Rattle.library_rows.specs.Library.{prelude_kinds, prelude_layout}
use Rattle.library_rows.proofs.Cases.{str, bytes, int, minus, nil_value, call, values, fails}

zeros_after_the_sign : call prelude_layout (str "%05d" ∷ minus 42 ∷ []) ≡ values (str "-0042" ∷ [])
unfolding digits
zeros_after_the_sign = refl

plus : call prelude_layout (str "%+d" ∷ int 7 ∷ []) ≡ values (str "+7" ∷ [])
unfolding digits
plus = refl

space : call prelude_layout (str "% d" ∷ int 3 ∷ []) ≡ values (str " 3" ∷ [])
unfolding digits
space = refl

width : call prelude_layout (str "%5d|" ∷ int 42 ∷ []) ≡ values (str "   42|" ∷ [])
unfolding digits
width = refl

left : call prelude_layout (str "%-5d|" ∷ int 42 ∷ []) ≡ values (str "42   |" ∷ [])
unfolding digits
left = refl

precision : call prelude_layout (str "%.3d" ∷ minus 7 ∷ []) ≡ values (str "-007" ∷ [])
unfolding digits
precision = refl

no_zeros_beside_a_precision : call prelude_layout (str "%08.3d|" ∷ int 5 ∷ []) ≡ values (str "     005|" ∷ [])
unfolding digits
no_zeros_beside_a_precision = refl

zero_without_digits : call prelude_layout (str "%.0d|" ∷ int 0 ∷ []) ≡ values (str "|" ∷ [])
unfolding digits
zero_without_digits = refl

unsigned_hexadecimal : call prelude_layout (str "%x" ∷ minus 1 ∷ []) ≡ values (str "ffffffffffffffff" ∷ [])
unfolding digits
unsigned_hexadecimal = refl

marked_hexadecimal : call prelude_layout (str "%#x" ∷ int 255 ∷ []) ≡ values (str "0xff" ∷ [])
unfolding digits
marked_hexadecimal = refl

marked_octal : call prelude_layout (str "%#o" ∷ int 8 ∷ []) ≡ values (str "010" ∷ [])
unfolding digits
marked_octal = refl

spelled_integer : call prelude_layout (str "%i" ∷ str "10" ∷ []) ≡ values (str "10" ∷ [])
unfolding digits
spelled_integer = refl

two_bytes : call prelude_layout (str "%c%c" ∷ int 72 ∷ int 105 ∷ []) ≡ values (str "Hi" ∷ [])
unfolding digits
two_bytes = refl

shortened_text : call prelude_layout (str "%.2s|%5s" ∷ str "hello" ∷ str "ab" ∷ []) ≡ values (str "he|   ab" ∷ [])
unfolding digits
shortened_text = refl

percent : call prelude_layout (str "%%" ∷ []) ≡ values (str "%" ∷ [])
unfolding digits
percent = refl

quoted_zero_before_a_digit : call prelude_layout (str "%q" ∷ bytes (0 ∷ 49 ∷ []) ∷ []) ≡ values (bytes (34 ∷ 92 ∷ 48 ∷ 48 ∷ 48 ∷ 49 ∷ 34 ∷ []) ∷ [])
unfolding digits
quoted_zero_before_a_digit = refl

quoted_bytes_and_escapes : call prelude_layout (str "%q" ∷ bytes (97 ∷ 34 ∷ 92 ∷ 10 ∷ 13 ∷ 120 ∷ []) ∷ []) ≡ values (bytes (34 ∷ 97 ∷ 92 ∷ 34 ∷ 92 ∷ 92 ∷ 92 ∷ 10 ∷ 92 ∷ 49 ∷ 51 ∷ 120 ∷ 34 ∷ []) ∷ [])
unfolding digits
quoted_bytes_and_escapes = refl

quoted_least_integer : call prelude_layout (str "%q" ∷ minus 9223372036854775808 ∷ []) ≡ values (str "0x8000000000000000" ∷ [])
unfolding digits
quoted_least_integer = refl

quoted_nil : call prelude_layout (str "%q" ∷ nil_value ∷ []) ≡ values (str "nil" ∷ [])
unfolding digits
quoted_nil = refl

not_a_number : call prelude_layout (str "%d" ∷ str "x" ∷ []) ≡ fails "bad argument #2 to 'format' (number expected, got string)"
unfolding digits
not_a_number = refl

unknown_letter : call prelude_layout (str "%y" ∷ int 1 ∷ []) ≡ fails "invalid conversion to 'format'"
unfolding digits
unknown_letter = refl

letters_of_a_format : call prelude_kinds (str "%5d%%%-3s%q" ∷ []) ≡ values (str "dsq" ∷ [])
unfolding digits
letters_of_a_format = refl

-- Vectors of the functions on strings and integers. What is expected is what the Lua 5.4 manual says, or what `lua5.4` gives.
use Rattle.std.proofs.Common.{◌≡◌, [], ◌∷◌, refl}
use Rattle.std.specs.Prelude.{true, false}
use Rattle.std.specs.Fmt.{digits}
use Rattle.std.specs.Int.{int_wrap}
use Rattle.library_rows.specs.Library.{base_tonumber, math_abs, math_fmod, math_max, math_min, math_tointeger, math_type, math_ult, string_byte, string_char, string_len, string_lower, string_rep, string_reverse, string_sub, string_upper}
use Rattle.library_rows.proofs.Cases.{str, int, minus, nil_value, truth, call, values, fails}

sub_from_the_end : call string_sub (str "hello" ∷ minus 3 ∷ minus 2 ∷ []) ≡ values (str "ll" ∷ [])
sub_from_the_end = refl

sub_to_the_end : call string_sub (str "hello" ∷ int 2 ∷ []) ≡ values (str "ello" ∷ [])
sub_to_the_end = refl

sub_from_zero : call string_sub (str "hello" ∷ int 0 ∷ int 2 ∷ []) ≡ values (str "he" ∷ [])
sub_from_zero = refl

sub_of_nothing : call string_sub (str "hello" ∷ int 4 ∷ int 2 ∷ []) ≡ values (str "" ∷ [])
sub_of_nothing = refl

sub_beyond_both_ends : call string_sub (str "hello" ∷ minus 100 ∷ int 100 ∷ []) ≡ values (str "hello" ∷ [])
sub_beyond_both_ends = refl

rep_with_separator : call string_rep (str "ab" ∷ int 3 ∷ str "," ∷ []) ≡ values (str "ab,ab,ab" ∷ [])
rep_with_separator = refl

rep_once : call string_rep (str "ab" ∷ int 1 ∷ str "," ∷ []) ≡ values (str "ab" ∷ [])
rep_once = refl

rep_of_none : call string_rep (str "ab" ∷ int 0 ∷ str "," ∷ []) ≡ values (str "" ∷ [])
rep_of_none = refl

rep_of_a_negative_number : call string_rep (str "x" ∷ minus 1 ∷ []) ≡ values (str "" ∷ [])
rep_of_a_negative_number = refl

rep_beyond_the_limit : call string_rep (str "x" ∷ int 16777217 ∷ []) ≡ fails "resulting string too large"
rep_beyond_the_limit = refl

byte_from_the_end : call string_byte (str "abc" ∷ minus 2 ∷ minus 1 ∷ []) ≡ values (int 98 ∷ int 99 ∷ [])
byte_from_the_end = refl

byte_past_the_end : call string_byte (str "abc" ∷ int 10 ∷ []) ≡ values ([])
byte_past_the_end = refl

char_of_codes : call string_char (int 72 ∷ int 105 ∷ []) ≡ values (str "Hi" ∷ [])
char_of_codes = refl

char_out_of_range : call string_char (int 65 ∷ int 256 ∷ []) ≡ fails "bad argument #2 to 'char' (value out of range)"
unfolding digits
char_out_of_range = refl

upper : call string_upper (str "aZ[" ∷ []) ≡ values (str "AZ[" ∷ [])
upper = refl

lower : call string_lower (str "aZ[" ∷ []) ≡ values (str "az[" ∷ [])
lower = refl

reversed : call string_reverse (str "abc" ∷ []) ≡ values (str "cba" ∷ [])
reversed = refl

length_of_an_integer : call string_len (int 120 ∷ []) ≡ values (int 3 ∷ [])
unfolding digits
length_of_an_integer = refl

no_string : call string_len (nil_value ∷ []) ≡ fails "bad argument #1 to 'len' (string expected, got nil)"
unfolding digits
no_string = refl

tonumber_base_36 : call base_tonumber (str "zz" ∷ int 36 ∷ []) ≡ values (int 1295 ∷ [])
unfolding int_wrap
tonumber_base_36 = refl

tonumber_base_16 : call base_tonumber (str "  -ff  " ∷ int 16 ∷ []) ≡ values (minus 255 ∷ [])
unfolding int_wrap
tonumber_base_16 = refl

tonumber_digit_too_great : call base_tonumber (str "8" ∷ int 8 ∷ []) ≡ values (nil_value ∷ [])
tonumber_digit_too_great = refl

tonumber_letter_too_great : call base_tonumber (str "1e" ∷ int 10 ∷ []) ≡ values (nil_value ∷ [])
tonumber_letter_too_great = refl

tonumber_wraps : call base_tonumber (str "10000000000000000f" ∷ int 16 ∷ []) ≡ values (int 15 ∷ [])
unfolding int_wrap
tonumber_wraps = refl

tonumber_of_nothing : call base_tonumber (str "" ∷ int 10 ∷ []) ≡ values (nil_value ∷ [])
tonumber_of_nothing = refl

tonumber_two_numbers : call base_tonumber (str "1 2" ∷ int 10 ∷ []) ≡ values (nil_value ∷ [])
tonumber_two_numbers = refl

tonumber_hexadecimal : call base_tonumber (str "0x10" ∷ []) ≡ values (int 16 ∷ [])
unfolding int_wrap
tonumber_hexadecimal = refl

tonumber_no_base : call base_tonumber (str "1" ∷ int 99 ∷ []) ≡ fails "bad argument #2 to 'tonumber' (base out of range)"
unfolding digits
tonumber_no_base = refl

greatest : call math_max (int 3 ∷ minus 1 ∷ int 7 ∷ int 2 ∷ []) ≡ values (int 7 ∷ [])
greatest = refl

least : call math_min (int 3 ∷ minus 1 ∷ int 7 ∷ []) ≡ values (minus 1 ∷ [])
least = refl

remainder_of_a_negative : call math_fmod (minus 7 ∷ int 3 ∷ []) ≡ values (minus 1 ∷ [])
remainder_of_a_negative = refl

remainder_by_a_negative : call math_fmod (int 7 ∷ minus 3 ∷ []) ≡ values (int 1 ∷ [])
remainder_by_a_negative = refl

remainder_by_zero : call math_fmod (int 1 ∷ int 0 ∷ []) ≡ fails "bad argument #2 to 'fmod' (zero)"
unfolding digits
remainder_by_zero = refl

absolute_value : call math_abs (minus 4 ∷ []) ≡ values (int 4 ∷ [])
unfolding int_wrap
absolute_value = refl

absolute_of_the_least : call math_abs (minus 9223372036854775808 ∷ []) ≡ values (minus 9223372036854775808 ∷ [])
unfolding int_wrap
absolute_of_the_least = refl

minus_one_is_greatest_unsigned : call math_ult (minus 1 ∷ int 1 ∷ []) ≡ values (truth false ∷ [])
minus_one_is_greatest_unsigned = refl

one_is_less_unsigned : call math_ult (int 1 ∷ minus 1 ∷ []) ≡ values (truth true ∷ [])
one_is_less_unsigned = refl

tointeger : call math_tointeger (int 5 ∷ []) ≡ values (int 5 ∷ [])
tointeger = refl

tointeger_of_a_string : call math_tointeger (str "x" ∷ []) ≡ values (nil_value ∷ [])
tointeger_of_a_string = refl

integers_are_integers : call math_type (int 5 ∷ []) ≡ values (str "integer" ∷ [])
integers_are_integers = refl

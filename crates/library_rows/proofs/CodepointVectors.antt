-- Vectors of the functions on UTF-8. What is expected is what the Lua 5.4 manual says, or what `lua5.4` gives.
use Rattle.std.proofs.Common.{◌≡◌, [], ◌∷◌, refl}
use Rattle.std.specs.Prelude.{true}
use Rattle.std.specs.Fmt.{digits}
use Rattle.library_rows.specs.Library.{prelude_walk, utf8_char, utf8_codepoint, utf8_len, utf8_offset}
use Rattle.library_rows.proofs.Cases.{str, bytes, int, minus, nil_value, truth, call, values, fails}

length_past_a_broken_byte : call utf8_len (bytes (97 ∷ 195 ∷ 169 ∷ 255 ∷ 122 ∷ []) ∷ []) ≡ values (nil_value ∷ int 4 ∷ [])
length_past_a_broken_byte = refl

length_after_a_broken_byte : call utf8_len (bytes (97 ∷ 195 ∷ 169 ∷ 255 ∷ 122 ∷ []) ∷ int 5 ∷ []) ≡ values (int 1 ∷ [])
length_after_a_broken_byte = refl

length_in_sequences : call utf8_len (bytes (97 ∷ 195 ∷ 169 ∷ 122 ∷ []) ∷ []) ≡ values (int 3 ∷ [])
length_in_sequences = refl

length_of_a_surrogate : call utf8_len (bytes (237 ∷ 160 ∷ 128 ∷ []) ∷ []) ≡ values (nil_value ∷ int 1 ∷ [])
length_of_a_surrogate = refl

length_of_a_surrogate_lax : call utf8_len (bytes (237 ∷ 160 ∷ 128 ∷ []) ∷ int 1 ∷ minus 1 ∷ truth true ∷ []) ≡ values (int 1 ∷ [])
length_of_a_surrogate_lax = refl

length_from_past_the_end : call utf8_len (str "abc" ∷ int 4 ∷ []) ≡ values (int 0 ∷ [])
length_from_past_the_end = refl

length_from_beyond : call utf8_len (str "abc" ∷ int 5 ∷ []) ≡ fails "bad argument #2 to 'len' (initial position out of bounds)"
unfolding digits
length_from_beyond = refl

codepoints_of_three : call utf8_codepoint (bytes (97 ∷ 195 ∷ 169 ∷ 226 ∷ 130 ∷ 172 ∷ []) ∷ int 1 ∷ minus 1 ∷ []) ≡ values (int 97 ∷ int 233 ∷ int 8364 ∷ [])
codepoints_of_three = refl

codepoint_beyond : call utf8_codepoint (str "abc" ∷ int 4 ∷ []) ≡ fails "bad argument #3 to 'codepoint' (out of bounds)"
unfolding digits
codepoint_beyond = refl

char_of_four : call utf8_char (int 97 ∷ int 233 ∷ int 8364 ∷ int 128512 ∷ []) ≡ values (bytes (97 ∷ 195 ∷ 169 ∷ 226 ∷ 130 ∷ 172 ∷ 240 ∷ 159 ∷ 152 ∷ 128 ∷ []) ∷ [])
char_of_four = refl

char_of_the_greatest : call utf8_char (int 2147483647 ∷ []) ≡ values (bytes (253 ∷ 191 ∷ 191 ∷ 191 ∷ 191 ∷ 191 ∷ []) ∷ [])
char_of_the_greatest = refl

char_below_zero : call utf8_char (minus 1 ∷ []) ≡ fails "bad argument #1 to 'char' (value out of range)"
unfolding digits
char_below_zero = refl

third_sequence : call utf8_offset (bytes (97 ∷ 195 ∷ 169 ∷ 226 ∷ 130 ∷ 172 ∷ []) ∷ int 3 ∷ []) ≡ values (int 4 ∷ [])
third_sequence = refl

last_sequence : call utf8_offset (bytes (97 ∷ 195 ∷ 169 ∷ 226 ∷ 130 ∷ 172 ∷ []) ∷ minus 1 ∷ []) ≡ values (int 4 ∷ [])
last_sequence = refl

start_of_a_sequence : call utf8_offset (bytes (97 ∷ 195 ∷ 169 ∷ 226 ∷ 130 ∷ 172 ∷ []) ∷ int 0 ∷ int 3 ∷ []) ≡ values (int 2 ∷ [])
start_of_a_sequence = refl

start_without_a_place : call utf8_offset (str "abc" ∷ int 0 ∷ []) ≡ values (int 1 ∷ [])
start_without_a_place = refl

past_all_sequences : call utf8_offset (str "abc" ∷ int 4 ∷ []) ≡ values (int 4 ∷ [])
past_all_sequences = refl

beyond_all_sequences : call utf8_offset (str "abc" ∷ int 5 ∷ []) ≡ values (nil_value ∷ [])
beyond_all_sequences = refl

within_a_sequence : call utf8_offset (bytes (97 ∷ 195 ∷ 169 ∷ []) ∷ int 1 ∷ int 3 ∷ []) ≡ fails "initial position is a continuation byte"
within_a_sequence = refl

first_walk : call prelude_walk (bytes (97 ∷ 195 ∷ 169 ∷ []) ∷ int 0 ∷ []) ≡ values (int 1 ∷ int 97 ∷ [])
first_walk = refl

second_walk : call prelude_walk (bytes (97 ∷ 195 ∷ 169 ∷ []) ∷ int 1 ∷ []) ≡ values (int 2 ∷ int 233 ∷ [])
second_walk = refl

last_walk : call prelude_walk (bytes (97 ∷ 195 ∷ 169 ∷ []) ∷ int 2 ∷ []) ≡ values ([])
last_walk = refl

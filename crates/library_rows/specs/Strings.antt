-- The functions on strings alone (Lua 5.4 manual, 6.4), and `tonumber` (6.1).
use Rattle.std.specs.Prelude.{ℕ, suc, ◌+◌, ◌-◌, ◌*◌, ℤ, pos, negsuc, Bool, true, false, cond, ◌&&◌, ◌==◌, max, min, nat_le, nat_lt, List, [], ◌∷◌, ◌++◌, length, map, take, drop, reverse, Option, Some, None, Result, Ok, Err, codes}
use Rattle.std.specs.List.{repeat, prefix_len}
use Rattle.int_core.specs.Arithmetic.{wrapped}
use Rattle.int_core.specs.Numeral.{is_space, digits_value, signed, digits_of}
use Rattle.int_core.specs.Value.{Plain, integer, string, Shape, is_known, greatest_string}
use Rattle.library_rows.specs.Plainly.{Outcome, results, error, too_large}
use Rattle.library_rows.specs.Arguments.{argument, bad_argument, number_of, is_absent, integer_argument, text_argument, integer_or, text_or, with, one, nothing}

-- Places in a string of n bytes, from 1. A negative one counts from the end.

-- where a part begins: at the first byte at the earliest
abbrev pub start_place : ℕ → ℤ → ℕ
start_place n (pos i) = max 1 i
start_place n (negsuc i) = max 1 (n - i)

-- where it ends: at the last byte at the latest
abbrev pub end_place : ℕ → ℤ → ℕ
end_place n (pos j) = min j n
end_place n (negsuc j) = n - j

-- the bytes from one place up to another one
abbrev pub part : List ℕ → ℤ → ℤ → List ℕ
part s i j = take (end_place (length s) j - (start_place (length s) i - 1)) (drop (start_place (length s) i - 1) s)

abbrev pub minus_one : ℤ
minus_one = negsuc 0

abbrev pub codes_of : List ℕ → List Plain
codes_of bytes = map (λ b. integer (pos b)) bytes

abbrev pub byte_row : List Shape → Outcome
byte_row ss = with (text_argument (codes "byte") 1 (argument ss 1)) (λ s. with (integer_or (pos 1) (codes "byte") 2 (argument ss 2)) (λ i.
    with (integer_or i (codes "byte") 3 (argument ss 3)) (λ j. results (codes_of (part s i j)))))

abbrev pub sub_row : List Shape → Outcome
sub_row ss = with (text_argument (codes "sub") 1 (argument ss 1)) (λ s. with (integer_argument (codes "sub") 2 (argument ss 2)) (λ i.
    with (integer_or minus_one (codes "sub") 3 (argument ss 3)) (λ j. one (string (part s i j)))))

abbrev pub len_row : List Shape → Outcome
len_row ss = with (text_argument (codes "len") 1 (argument ss 1)) (λ s. one (integer (pos (length s))))

abbrev pub lower_byte : ℕ → ℕ
lower_byte b = cond (nat_le 65 b && nat_le b 90) (b + 32) b

abbrev pub upper_byte : ℕ → ℕ
upper_byte b = cond (nat_le 97 b && nat_le b 122) (b - 32) b

abbrev pub lower_row : List Shape → Outcome
lower_row ss = with (text_argument (codes "lower") 1 (argument ss 1)) (λ s. one (string (map lower_byte s)))

abbrev pub upper_row : List Shape → Outcome
upper_row ss = with (text_argument (codes "upper") 1 (argument ss 1)) (λ s. one (string (map upper_byte s)))

abbrev pub reverse_row : List Shape → Outcome
reverse_row ss = with (text_argument (codes "reverse") 1 (argument ss 1)) (λ s. one (string (reverse s)))

-- a byte is an integer from 0 to 255
abbrev pub byte_in : ℕ → ℤ → Result ℕ (List ℕ)
byte_in i (pos n) = elim (nat_lt n 256) [ true ↦ Ok n | false ↦ Err (bad_argument i (codes "char") (codes "value out of range")) ]
byte_in i (negsuc n) = Err (bad_argument i (codes "char") (codes "value out of range"))

-- the bytes of all arguments, the first of which has the number i
abbrev pub chars : ℕ → List Shape → (List ℕ → Outcome) → Outcome
chars i [] k = k []
chars i (s ∷ ss) k = with (integer_argument (codes "char") i s) (λ n. with (byte_in i n) (λ b. chars (suc i) ss (λ bytes. k (b ∷ bytes))))

abbrev pub char_row : List Shape → Outcome
char_row ss = chars 1 ss (λ bytes. one (string bytes))

-- n copies with a separator between them; the length is looked at first
abbrev pub copies : List ℕ → List ℕ → ℤ → Outcome
copies s between (pos (suc n)) = elim (nat_le (length s * (n + 1) + length between * n) greatest_string) [
  | true ↦ one (string (s ++ repeat n (between ++ s)))
  | false ↦ error too_large
]
copies s between _ = one (string [])

abbrev pub rep_row : List Shape → Outcome
rep_row ss = with (text_argument (codes "rep") 1 (argument ss 1)) (λ s. with (integer_argument (codes "rep") 2 (argument ss 2)) (λ n.
    with (text_or [] (codes "rep") 3 (argument ss 3)) (λ between. copies s between n)))

-- Numbers from strings.

abbrev pub integer_or_nil : Option ℤ → Outcome
integer_or_nil None = nothing
integer_or_nil (Some n) = one (integer n)

-- the digits after the sign, modulo 2^64
abbrev pub unsigned_in : ℕ → Bool → List ℕ → Option ℤ
unsigned_in base negative text = elim (digits_of base text) [ None ↦ None | Some digits ↦ Some (wrapped (signed negative (digits_value base digits))) ]

abbrev pub signed_in : ℕ → List ℕ → Option ℤ
signed_in base [] = None
signed_in base (c ∷ text) = elim (c == 45) [ true ↦ unsigned_in base true text | false ↦ unsigned_in base false (c ∷ text) ]

abbrev pub in_base : ℕ → Shape → Option ℤ
in_base base (is_known (string text)) = signed_in base (drop (prefix_len is_space text) text)
in_base base _ = None

abbrev pub base_in : ℤ → Result ℕ (List ℕ)
base_in (pos n) = elim (nat_le 2 n && nat_le n 36) [ true ↦ Ok n | false ↦ Err (bad_argument 2 (codes "tonumber") (codes "base out of range")) ]
base_in (negsuc n) = Err (bad_argument 2 (codes "tonumber") (codes "base out of range"))

abbrev pub tonumber_row : List Shape → Outcome
tonumber_row ss = elim (is_absent (argument ss 2)) [
  | true ↦ integer_or_nil (number_of (argument ss 1))
  | false ↦ with (integer_argument (codes "tonumber") 2 (argument ss 2)) (λ n. with (base_in n) (λ base. integer_or_nil (in_base base (argument ss 1))))
]

-- Private to the prelude.

abbrev pub toint_row : List Shape → Outcome
toint_row ss = integer_or_nil (number_of (argument ss 1))

abbrev pub from_row : List Shape → Outcome
from_row ss = with (integer_or (pos 1) (codes "from") 1 (argument ss 1)) (λ i. with (integer_argument (codes "from") 2 (argument ss 2)) (λ n.
    one (integer (pos (start_place (size n) i)))))
  where
    size : ℤ → ℕ
    size (pos n) = n
    size (negsuc n) = 0

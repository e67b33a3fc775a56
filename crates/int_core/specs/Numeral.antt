-- The texts that spell an integer, as arithmetic on a string reads them (Lua 5.4 manual, 3.1 and 3.4.3).
use Rattle.std.specs.Prelude.{◌≡◌, ℕ, ◌+◌, ◌*◌, ◌^◌, ◌<◌, ◌⊎◌, Bool, true, false, ◌&&◌, ◌||◌, if◌then◌else◌, ◌==◌, nat_lt, nat_le, List, [], ◌∷◌, ◌++◌, length, drop, take, fold, ℤ, pos, negsuc, neg_ℤ, FitsSigned, Option, Some, None, option_map}
use Rattle.std.specs.Char.{digit_value, is_digit}
use Rattle.std.specs.Int.{w64}
use Rattle.std.specs.List.{AllPass, list_all, prefix_len}
use Rattle.std.specs.Option.{option_and_then}
use Rattle.int_core.specs.Arithmetic.{wrapped}

-- white space: the space and the bytes from the tab to the carriage return
abbrev pub is_space : ℕ → Bool
is_space c = (c == 32) || (nat_le 9 c && nat_le c 13)

-- the number that digits spell in a base
abbrev pub digits_value : ℕ → List ℕ → ℕ
digits_value base digits = fold (λ n c. n * base + digit_value c) 0 digits

-- the number n with a sign
abbrev pub signed : Bool → ℕ → ℤ
signed negative n = if negative then neg_ℤ (pos n) else pos n

-- a sign, or none, and whether it is a minus
pub data IsSign : List ℕ → Bool → Type 0 where
  absent : IsSign [] false
  plus : IsSign (43 ∷ []) false
  minus : IsSign (45 ∷ []) true

pub record AreDigits (base : ℕ) (digits : List ℕ) : Type 0 where
  pub some : 0 < length digits
  pub all : AllPass (λ c. is_digit c base) digits

-- decimal digits, whose number with its sign is an integer of 64 bits
pub record IsDecimal (negative : Bool) (text : List ℕ) (n : ℤ) : Type 0 where
  pub digits : AreDigits 10 text
  pub value : n ≡ signed negative (digits_value 10 text)
  pub fits : FitsSigned w64 n

-- `0x` or `0X` and hexadecimal digits, whose number with its sign wraps around
pub record IsHexadecimal (negative : Bool) (text : List ℕ) (n : ℤ) : Type 0 where
  pub mark : ℕ
  pub rest : List ℕ
  pub whole : text ≡ 48 ∷ mark ∷ rest
  pub is_x : (mark ≡ 120) ⊎ (mark ≡ 88)
  pub digits : AreDigits 16 rest
  pub value : n ≡ wrapped (signed negative (digits_value 16 rest))

-- the text is white space, a sign, digits and white space, and spells n
pub record SpellsInteger (text : List ℕ) (n : ℤ) : Type 0 where
  pub before : List ℕ
  pub sign : List ℕ
  pub digits : List ℕ
  pub after : List ℕ
  pub negative : Bool
  pub whole : text ≡ before ++ sign ++ digits ++ after
  pub space_before : AllPass is_space before
  pub is_sign : IsSign sign negative
  pub spelled : IsDecimal negative digits n ⊎ IsHexadecimal negative digits n
  pub space_after : AllPass is_space after

-- ---- the same, computed

-- whether z is an integer of 64 bits
abbrev pub fits : ℤ → Bool
fits (pos n) = nat_lt n (2 ^ 63)
fits (negsuc n) = nat_lt n (2 ^ 63)

-- how many digits the text begins with
abbrev pub digits_len : ℕ → List ℕ → ℕ
digits_len base text = prefix_len (λ c. is_digit c base) text

-- the digits of a text that is digits and white space
abbrev pub digits_of : ℕ → List ℕ → Option (List ℕ)
digits_of base text =
    if nat_lt 0 (digits_len base text) && list_all is_space (drop (digits_len base text) text)
    then Some (take (digits_len base text) text)
    else None

-- the number n with its sign, where that is an integer of 64 bits
abbrev pub integer_within : Bool → ℕ → Option ℤ
integer_within negative n = if fits (signed negative n) then Some (signed negative n) else None

-- the integer of decimal digits and white space, and of what follows `0x`
abbrev pub decimal_of : Bool → List ℕ → Option ℤ
decimal_of negative text = option_and_then (λ digits. integer_within negative (digits_value 10 digits)) (digits_of 10 text)

abbrev pub hexadecimal_of : Bool → List ℕ → Option ℤ
hexadecimal_of negative text = option_map (λ digits. wrapped (signed negative (digits_value 16 digits))) (digits_of 16 text)

-- whether a text with these first bytes is hexadecimal
abbrev pub is_x : ℕ → ℕ → Bool
is_x first mark = (first == 48) && (mark == 120 || mark == 88)

-- the integer of a text behind its sign, and of one that begins with no white space
abbrev pub unsigned_of : Bool → List ℕ → Option ℤ
unsigned_of negative (c ∷ d ∷ text) = if is_x c d then hexadecimal_of negative text else decimal_of negative (c ∷ d ∷ text)
unsigned_of negative text = decimal_of negative text

abbrev pub spaceless_of : List ℕ → Option ℤ
spaceless_of [] = None
spaceless_of (c ∷ text) =
    if c == 45 then unsigned_of true text
    else if c == 43 then unsigned_of false text
    else unsigned_of false (c ∷ text)

-- the integer that a text spells
abbrev pub integer_of : List ℕ → Option ℤ
integer_of text = spaceless_of (drop (prefix_len is_space text) text)

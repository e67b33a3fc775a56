-- Conversions as the rows see them, and how their digits are written.
use Rattle.std.specs.Prelude.{ℕ, zero, ◌-◌, Bool, true, false, cond, not, ◌&&◌, ◌||◌, ◌==◌, List, [], ◌∷◌, ◌++◌, length, Option, Some, decimal}
use Rattle.std.specs.List.{repeat}
use Rattle.library_rows.specs.Formats.{Conversion as Read, has, or_zero, is_control, hexadecimal_mark}
use Rattle.text_format.specs.declared.conversion.Conversion.{Conversion}
use Rattle.text_format.specs.declared.numbers.Base.{Base}
use Rattle.text_format.specs.declared.numbers.Base.TheVariants.{Decimal, Octal, Hexadecimal, UpperHexadecimal}

abbrev pub told_conversion : Conversion → Read
told_conversion c = record { flags = c.flags.now; width = c.width; precision = c.precision; letter = c.letter }

abbrev pub base_of : Base → ℕ
base_of Decimal = 10
base_of Octal = 8
base_of Hexadecimal = 16
base_of UpperHexadecimal = 16

abbrev pub is_upper : Base → Bool
is_upper UpperHexadecimal = true
is_upper _ = false

-- the digits that are shown: 0 has none at a precision of 0
abbrev pub shown_digits : Option ℕ → List ℕ → ℕ → List ℕ
shown_digits (Some zero) ds zero = []
shown_digits precision ds n = ds

abbrev pub begins_with_zero : List ℕ → Bool
begins_with_zero [] = false
begins_with_zero (d ∷ ds) = d == 48

-- how many zeros stand before digits; by `#` octal digits begin with one
abbrev pub zeros_in : Read → ℕ → List ℕ → ℕ
zeros_in c base ds = cond ((base == 8) && (has c.flags 35 && ((or_zero c.precision - length ds == 0) && not (begins_with_zero ds)))) 1 (or_zero c.precision - length ds)

-- `0x` or `0X` by `#`, but for 0 and in base 8
abbrev pub mark_before : Read → ℕ → Bool → ℕ → List ℕ
mark_before c base upper n = cond (not (has c.flags 35)) [] (cond (base == 8) [] (hexadecimal_mark upper n))

-- what stands in a literal for a byte, where it is known whether a digit comes next
abbrev pub quoted_byte : Bool → ℕ → List ℕ
quoted_byte digit b =
    cond (b == 34 || b == 92 || b == 10) (92 ∷ b ∷ [])
    (cond (not (is_control b)) (b ∷ [])
    (cond digit (92 ∷ repeat (3 - length (decimal b)) (48 ∷ []) ++ decimal b) (92 ∷ decimal b)))

-- UTF-8 as extended to numbers below 2 ^ 31, which take up to six bytes (Lua 5.4 manual, 3.1 and 6.5).
use Rattle.std.specs.Prelude.{ℕ, zero, suc, ◌+◌, ◌*◌, ◌/◌, ◌%◌, ◌^◌, nat_lt, List, [], ◌∷◌, if◌then◌else◌}

-- the last bytes of a sequence: six bits each, the highest first
abbrev pub continuation : ℕ → ℕ → List ℕ
continuation zero value = []
continuation (suc count) value = (128 + value / 2 ^ (6 * count) % 64) ∷ continuation count value

-- a sequence of a first byte, which has the highest bits above its mark, and so many others
abbrev pub sequence : ℕ → ℕ → ℕ → List ℕ
sequence mark count value = (mark + value / 2 ^ (6 * count)) ∷ continuation count value

unfoldable pub extended_utf8 : ℕ → List ℕ
extended_utf8 value =
    if nat_lt value 0x80 then value ∷ []
    else if nat_lt value 0x800 then sequence 0xc0 1 value
    else if nat_lt value 0x1_0000 then sequence 0xe0 2 value
    else if nat_lt value 0x20_0000 then sequence 0xf0 3 value
    else if nat_lt value 0x400_0000 then sequence 0xf8 4 value
    else sequence 0xfc 5 value

-- The operations on the language's integers, which have 64 bits and wrap around (Lua 5.4 manual, 3.4.1 and 3.4.2).
use Rattle.std.specs.Prelude.{ℕ, suc, ◌/◌, ◌^◌, min, ℤ, pos, negsuc, neg_ℤ, ◌+ℤ◌, ◌-ℤ◌, ◌*ℤ◌}
use Rattle.std.specs.Int.{w64, cast_unsigned, int_wrap}

-- the integer from -2^63 to 2^63 - 1 that equals z modulo 2^64
abbrev pub wrapped : ℤ → ℤ
wrapped z = int_wrap w64 z

abbrev pub add : ℤ → ℤ → ℤ
add a b = wrapped (a +ℤ b)

abbrev pub sub : ℤ → ℤ → ℤ
sub a b = wrapped (a -ℤ b)

abbrev pub mul : ℤ → ℤ → ℤ
mul a b = wrapped (a *ℤ b)

abbrev pub neg : ℤ → ℤ
neg a = wrapped (neg_ℤ a)

-- the floor of a / n, for n not 0
abbrev pub floor_over : ℤ → ℕ → ℤ
floor_over (pos a) n = pos (a / n)
floor_over (negsuc a) n = negsuc (a / n)

-- the floor of a / b, for b not 0
abbrev pub floor_quotient : ℤ → ℤ → ℤ
floor_quotient a (pos b) = floor_over a b
floor_quotient a (negsuc b) = floor_over (neg_ℤ a) (suc b)

abbrev pub floor_div : ℤ → ℤ → ℤ
floor_div a b = wrapped (floor_quotient a b)

-- what is left of a beside the floor of a / b times b: its sign is that of b
abbrev pub floor_mod : ℤ → ℤ → ℤ
floor_mod a b = a -ℤ b *ℤ floor_quotient a b

-- the bits of a moved by n places, up or down: zeros come in, and no bit is left from 64 places on
abbrev pub moved_up : ℤ → ℕ → ℤ
moved_up a n = wrapped (a *ℤ pos (2 ^ min n 64))

abbrev pub moved_down : ℤ → ℕ → ℤ
moved_down a n = wrapped (pos (cast_unsigned w64 a / 2 ^ min n 64))

-- a negative count moves the other way
abbrev pub shl : ℤ → ℤ → ℤ
shl a (pos n) = moved_up a n
shl a (negsuc n) = moved_down a (suc n)

abbrev pub shr : ℤ → ℤ → ℤ
shr a (pos n) = moved_down a n
shr a (negsuc n) = moved_up a (suc n)

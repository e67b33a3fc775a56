-- The bits of integers.
use Rattle.std.proofs.Common.{◌≡◌, ◌^◌, ◌<◌, sym, arith}
use Rattle.std.proofs.lemmas.Nat.{or_lt, xor_lt, and_le_l}
use Rattle.std.specs.Prelude.{ℤ, pos, negsuc, bit_and, bit_or, bit_xor}
use Rattle.std.specs.Int.{w64, cast_signed, cast_unsigned}
use Rattle.std.specs.Int.RustNames.{FitsSigned}
use Rattle.int_core.specs.Operations.{bitwise}
use Rattle.int_core.proofs.WrappedLemmas.{wrapped-pos_below, bits-below as bits_below}

pub and_is : (m n : ℤ) → FitsSigned w64 m → FitsSigned w64 n → cast_signed w64 (bit_and (cast_unsigned w64 m) (cast_unsigned w64 n)) ≡ bitwise bit_and m n
and_is m n f g = sym (wrapped-pos_below (bit_and (cast_unsigned w64 m) (cast_unsigned w64 n)) (let l = bits_below m f in let k = and_le_l (cast_unsigned w64 m) (cast_unsigned w64 n) in omega (arith, l, k)))

pub or_is : (m n : ℤ) → FitsSigned w64 m → FitsSigned w64 n → cast_signed w64 (bit_or (cast_unsigned w64 m) (cast_unsigned w64 n)) ≡ bitwise bit_or m n
or_is m n f g = sym (wrapped-pos_below (bit_or (cast_unsigned w64 m) (cast_unsigned w64 n)) (or_lt 64 (cast_unsigned w64 m) (cast_unsigned w64 n) (bits_below m f) (bits_below n g)))

pub xor_is : (m n : ℤ) → FitsSigned w64 m → FitsSigned w64 n → cast_signed w64 (bit_xor (cast_unsigned w64 m) (cast_unsigned w64 n)) ≡ bitwise bit_xor m n
xor_is m n f g = sym (wrapped-pos_below (bit_xor (cast_unsigned w64 m) (cast_unsigned w64 n)) (xor_lt 64 (cast_unsigned w64 m) (cast_unsigned w64 n) (bits_below m f) (bits_below n g)))

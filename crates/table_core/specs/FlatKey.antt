-- Keys as a map hashes and compares them: a kind and 64 bits.
use Rattle.std.specs.Prelude.{◌≡◌, ℕ, zero, suc, ◌+◌, ◌*◌, ◌%◌, ◌^◌, nat_eq}
use Rattle.std.specs.Int.{w64, cast_signed, cast_unsigned, from_bool}
use Rattle.table_core.specs.declared.value.Value.{Value}
use Rattle.table_core.specs.declared.value.Value.TheVariants.{Nil, Bool as Boolean, Int, Str, Prim, Table, Func, Coro}

abbrev pub kind_of : Value → ℕ
kind_of Nil = 0
kind_of (Boolean b) = 1
kind_of (Int n) = 2
kind_of (Str id) = 3
kind_of (Prim number) = 4
kind_of (Table id) = 5
kind_of (Func id) = 6
kind_of (Coro id) = 7

abbrev pub bits_of : Value → ℕ
bits_of Nil = 0
bits_of (Boolean b) = from_bool b
bits_of (Int n) = cast_unsigned w64 n
bits_of (Str id) = id.0
bits_of (Prim number) = number
bits_of (Table id) = id.0
bits_of (Func id) = id.0
bits_of (Coro id) = id.0

abbrev pub value_of : ℕ → ℕ → Value
value_of zero bits = Nil
value_of (suc zero) bits = Boolean (nat_eq bits 1)
value_of (suc (suc zero)) bits = Int (cast_signed w64 bits)
value_of (suc (suc (suc zero))) bits = Str (record { 0 = bits })
value_of (suc (suc (suc (suc zero)))) bits = Prim (bits % 2 ^ 16)
value_of (suc (suc (suc (suc (suc zero))))) bits = Table (record { 0 = bits })
value_of (suc (suc (suc (suc (suc (suc zero)))))) bits = Func (record { 0 = bits })
value_of (suc (suc (suc (suc (suc (suc (suc more))))))) bits = Coro (record { 0 = bits })

-- a value has this kind and these bits
pub record IsFlat (kind bits : ℕ) : Type 0 where
  pub same_kind : kind_of (value_of kind bits) ≡ kind
  pub same_bits : bits_of (value_of kind bits) ≡ bits

-- what is hashed of a key, in one word
abbrev pub hash_code : Value → ℕ
hash_code key = ((bits_of key * 8) % 2 ^ 64 + kind_of key) % 2 ^ 64

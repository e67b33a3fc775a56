-- Values of fields of instructions.
use Rattle.std.proofs.Common.{leb-true, ◌≡◌, ℕ, ◌<◌, ◌^◌, Bool, cond, arith, true, false, ◌==◌, ap, ℤ, pos, negsuc, lit<}
use Rattle.code_core.specs.declared.opcode.Opcode.{Opcode}
use Rattle.code_core.specs.Instruction.{abc, bits_from, k_of}
use Rattle.code_core.proofs.Opcodes.{number_below}
use Rattle.code_of.specs.Constants.{is_small, small_field}
use Rattle.code_core.proofs.FieldLemmas.{flag_below}

pub flag_bit : (op : Opcode) (a b c : ℕ) (k : Bool) → a < 2 ^ 8 → bits_from 15 1 (abc op a b c k) ≡ cond k 1 0
flag_bit op a b c k fits = let below = number_below op in let flag = flag_below k in omega arith

pub k_of-abc : (op : Opcode) (a b c : ℕ) (k : Bool) → a < 2 ^ 8 → k_of (abc op a b c k) ≡ k
k_of-abc op a b c true fits = ap (λ n. n == 1) (flag_bit op a b c true fits)
k_of-abc op a b c false fits = ap (λ n. n == 1) (flag_bit op a b c false fits)

pub field_fits : (z : ℤ) → is_small z ≡ true → small_field z < 2 ^ 17
field_fits (pos n) e = let h = leb-true n 65536 e in omega (arith, h)
field_fits (negsuc n) e = omega arith

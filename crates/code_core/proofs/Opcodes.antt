-- An opcode stands at its number.
use Rattle.std.proofs.Common.{◌≡◌, ◌<◌, ◌/◌, ◌%◌, ◌^◌, ℕ, Some, refl, lit<, arith}
use Rattle.std.specs.Prelude.{slice_get}
use Rattle.code_core.specs.declared.opcode.Opcode.{Opcode}
use Rattle.code_core.specs.declared.opcode.Opcode.TheVariants.{Move}
use Rattle.code_core.specs.Opcode.{opcodes, number_of}
use Rattle.code_core.specs.Instruction.{opcode_of}

pub opcodes-number : (op : Opcode) → slice_get opcodes (number_of op) ≡ Some op
unfolding opcodes number_of
opcodes-number Move = refl
opcodes-number _ = refl

pub number_below : (op : Opcode) → number_of op < 83
unfolding number_of
number_below Move = lit< tt
number_below _ = lit< tt

pub opcode_of-made : (op : Opcode) (word : ℕ) → word % 128 ≡ number_of op → opcode_of (record { 0 = word }) ≡ Some op
opcode_of-made op word low =
    let at_zero : word / 2 ^ 0 % 2 ^ 7 ≡ number_of op = omega arith in
    rw at_zero (opcodes-number op)

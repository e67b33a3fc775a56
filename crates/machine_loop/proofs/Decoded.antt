-- The opcode of an instruction whose number is known.
use Rattle.std.proofs.Common.{◌≡◌, ℕ, Option, ap, sym, ◌∙◌}
use Rattle.std.specs.Prelude.{slice_get}
use Rattle.code_core.specs.Instruction.{bits_from, opcode_of}
use Rattle.code_core.specs.Opcode.{opcodes}
use Rattle.code_core.specs.declared.instruction.Instruction.{Instruction}
use Rattle.code_core.specs.declared.opcode.Opcode.{Opcode}

pub numbered : (i : Instruction) (number n : ℕ) (o : Option Opcode) → number ≡ bits_from 0 7 i → number ≡ n → o ≡ slice_get opcodes n → o ≡ opcode_of i
numbered i number n o e f g = g ∙ ap (slice_get opcodes) (sym f ∙ e)

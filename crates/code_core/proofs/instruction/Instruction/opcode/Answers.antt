use Rattle.std.proofs.Common.{◌≡◌, ◌%◌, ◌/◌, ◌^◌, arith}
use Rattle.std.specs.Prelude.{slice_get, bit_and}
use Rattle.std.proofs.lemmas.Grind.{common_steps}
use Rattle.code_core.specs.Opcode.{opcodes}
use Rattle.code_core.proofs.instruction.Instruction.opcode.Goals as goal

pub returns : goal.returns
unfolding opcodes
returns c =
    let field : bit_and c.args.self.0 127 ≡ c.args.self.0 / 2 ^ 0 % 2 ^ 7 = grind (arith, common_steps) in
    let found : c.opcode_at.result ≡ slice_get opcodes (bit_and c.args.self.0 127) = c.opcode_at.ensures in
    rw field at found

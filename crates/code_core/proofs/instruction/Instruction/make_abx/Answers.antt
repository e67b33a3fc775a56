use Rattle.std.proofs.Common.{arith}
use Rattle.code_core.proofs.Opcodes.{opcode_of-made}
use Rattle.code_core.proofs.instruction.Instruction.make_abx.Goals as goal

pub returns-clause-op : goal.returns-clause-op
returns-clause-op c = opcode_of-made c.args.op _ (omega arith)

use Rattle.std.proofs.Common.{◌≡◌, refl}
use Rattle.code_core.specs.Opcode.{number_of}
use Rattle.code_core.specs.declared.opcode.Opcode.{Opcode}
use Rattle.code_core.specs.declared.opcode.Opcode.TheVariants.{Move}
use Rattle.code_core.proofs.Opcodes.{number_below}
use Rattle.code_core.proofs.opcode.Opcode.number.Goals as goal

tag-number : (op : Opcode) → denote.Enum.Declared.tag_of Rattle.code_core.specs.contracts.opcode.Opcode.the_type op ≡ number_of op
unfolding number_of
tag-number Move = refl
tag-number _ = refl

pub returns-clause-value : goal.returns-clause-value
returns-clause-value c = tag-number c.args.self

pub returns-clause-below : goal.returns-clause-below
returns-clause-below c = let e = tag-number c.args.self in rw e (number_below c.args.self)

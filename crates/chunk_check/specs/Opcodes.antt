-- Conditions on lists that the check answers at once.
use Rattle.std.specs.Prelude.{ℕ, Bool, nat_lt, slice_get, Option, List, length}
use Rattle.std.specs.List.{list_all}
use Rattle.code_core.specs.declared.opcode.Opcode.{Opcode}
use Rattle.code_core.specs.declared.instruction.Instruction.{Instruction}
use Rattle.code_core.specs.Prototype.{Prototype}
use Rattle.code_core.specs.Fields.{registers, constants, upvalues}
use Rattle.code_core.specs.Check.{there, constant_is}

abbrev pub all_below : ℕ → List ℕ → Bool
all_below stack rs = list_all (λ r. nat_lt r stack) rs

abbrev pub registers_there : ℕ → Opcode → Instruction → Bool
registers_there stack op w = all_below stack (registers op w)

abbrev pub constants_there : Prototype → Opcode → Instruction → Option ℕ → Bool
constants_there p op w extra = list_all (λ used. there (constant_is used.0) (slice_get p.own.constants used.1)) (constants op w extra)

abbrev pub upvalues_there : Prototype → Opcode → Instruction → Bool
upvalues_there p op w = all_below (length p.own.upvalues) (upvalues op w)

-- Which form the instructions have.
use Rattle.std.specs.Prelude.{◌≡◌, ℕ, List, [], ◌∷◌}
use Rattle.code_core.specs.declared.instruction.Instruction.{Instruction}
use Rattle.code_core.specs.declared.opcode.Opcode.{Opcode}
use Rattle.code_core.specs.Prototype.{Prototype}
use Rattle.int_core.specs.Value.{Value}
use Rattle.machine_core.specs.World.{World}
use Rattle.machine_core.specs.InstructionRows.{row_of}
use Rattle.machine_core.specs.FrameRows.{When, expand_by}
use Rattle.machine_core.specs.Moves.{trapped, run}
use Rattle.instruction_forms.specs.declared.operand.Operator.{Operator}
use Rattle.instruction_forms.specs.declared.operand.Operator.TheVariants.{Add, Sub, Mul, Mod, IDiv, BAnd, BOr, BXor, Shl, Shr}

-- the operators by the numbers of their handlers, from 6 on
abbrev pub operators : List Operator
operators = Add ∷ Sub ∷ Mul ∷ Mod ∷ Add ∷ Add ∷ IDiv ∷ BAnd ∷ BOr ∷ BXor ∷ Shl ∷ Shr ∷ []

-- no world can do it
abbrev pub IsNone : Opcode → Instruction → Type 0
IsNone op i = (p : Prototype) (pc : ℕ) (when : When) (env : List Value) (W : World) → run (expand_by when (row_of p pc op i)) env W ≡ trapped

-- What is proved of the machine's rows as such.
use Rattle.std.specs.Prelude.{ℕ, []}
use Rattle.int_core.specs.Value.{Value}
use Rattle.code_core.specs.declared.opcode.Opcode.{Opcode}
use Rattle.code_core.specs.declared.instruction.Instruction.{Instruction}
use Rattle.code_core.specs.Prototype.{Prototype}
use Rattle.machine_core.specs.World.{Wait}
use Rattle.machine_core.specs.InstructionRows.{row_of, rest}
use Rattle.machine_core.specs.RowFits.{Fits, MakesNone, OpensFirst}

-- the row of each instruction fits the waits
abbrev pub EachRowFits : Type 0
EachRowFits = (p : Prototype) (pc : ℕ) (op : Opcode) (w : Instruction) → Fits p pc op w (row_of p pc op w)

-- and so does what is left of an instruction when an answer comes
abbrev pub EachRestFits : Type 0
EachRestFits = (wait : Wait Value) (p : Prototype) (pc : ℕ) (op : Opcode) (w : Instruction) → Fits p pc op w (rest wait p pc op w)

-- each row opens what a function that it makes shares, and what is left of an instruction makes none
abbrev pub EachRowOpens : Type 0
EachRowOpens = (p : Prototype) (pc : ℕ) (op : Opcode) (w : Instruction) → OpensFirst p [] (row_of p pc op w)

abbrev pub EachRestMakesNone : Type 0
EachRestMakesNone = (wait : Wait Value) (p : Prototype) (pc : ℕ) (op : Opcode) (w : Instruction) → MakesNone (rest wait p pc op w)

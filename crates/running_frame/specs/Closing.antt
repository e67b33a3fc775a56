-- A CLOSE in a frame where from a register on no cell is open and nothing is to be closed.
use Rattle.std.specs.Prelude.{Bool, true, false, Option, Some}
use Rattle.code_core.specs.declared.opcode.Opcode.{Opcode}
use Rattle.code_core.specs.declared.opcode.Opcode.TheVariants.{Close}

-- an instruction that closes variables
abbrev pub is_close : Option Opcode → Bool
is_close (Some Close) = true
is_close _ = false

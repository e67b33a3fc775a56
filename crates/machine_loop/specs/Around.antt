-- Reads, comparisons and stores of the loop over one frame's instructions that look beyond the frame, or beyond a value itself.
use Rattle.std.specs.Prelude.{◌≡◌, ◌⊎◌, ℕ, List, Some, slice_get}
use Rattle.code_core.specs.declared.instruction.Instruction.{Instruction}
use Rattle.code_core.specs.declared.opcode.Opcode.{Opcode}
use Rattle.code_core.specs.Instruction.{opcode_of}
use Rattle.lua_heap.specs.declared.world.Cell.{Cell}
use Rattle.machine_arms_tables.specs.Frame.{Code, Leads, moment}
use Rattle.machine_loop.specs.declared.memo.Memo.{Memo}
use Rattle.machine_loop.specs.Knowing.{ReadsKnown}
use Rattle.table_core.specs.Table.{Contents}
use Rattle.table_core.specs.declared.value.Value.{Value as Kept}

-- an instruction that changes nothing but registers and tables leads on, whatever is left of the budget
pub record GoesBeyond (k : Code) (ts us : List Contents) (cs : List Cell) (r s : List Kept) (pc to : ℕ) : Type 0 where
  pub op : Opcode
  pub word : Instruction
  pub at_pc : slice_get k.words pc ≡ Some word
  pub is_opcode : opcode_of word ≡ Some op
  pub leads : (fuel : ℕ) → Leads op word k (moment ts cs r pc fuel) (moment us cs s to fuel)

-- a variable whose value is known, or what looks beyond a value
abbrev pub GoesAround : Code → (ts us : List Contents) → List Cell → Memo → (r s : List Kept) → (pc to : ℕ) → Type 0
GoesAround k ts us cs memo r s pc to = (ReadsKnown k.words memo r s pc to × (us ≡ ts)) ⊎ GoesBeyond k ts us cs r s pc to

-- What a loop over the instructions of one frame is proved by.
use Rattle.std.specs.Prelude.{◌≡◌, ℕ, ◌<◌, List, length, Some, slice_get}
use Rattle.code_core.specs.declared.instruction.Instruction.{Instruction}
use Rattle.code_core.specs.declared.opcode.Opcode.{Opcode}
use Rattle.code_core.specs.Instruction.{opcode_of}
use Rattle.int_core.specs.Heap.{Heap}
use Rattle.machine_core.specs.World.{Cell}
use Rattle.machine_view.specs.View.{Around, IsAt, Does, Ready, Runs}
use Rattle.table_core.specs.declared.value.Value.{Value as Kept}

-- in a sound world the frame is at an instruction of its code
pub record HasInstruction (words : List Instruction) (constants r : List Kept) (pc : ℕ) : Type 0 where
  pub there : pc < length words
  pub is_at : (w : Instruction) (op : Opcode) → slice_get words pc ≡ Some w → opcode_of w ≡ Some op → IsAt op w words constants r pc

abbrev pub ReadyIsAt : Type 0
ReadyIsAt = (g : Around) (words : List Instruction) (constants : List Kept) (heap : Heap) (cells : List Cell) (r : List Kept) (pc fuel : ℕ)
    → Ready g words constants heap cells r pc fuel → HasInstruction words constants r pc

-- what an instruction does is a step, and the world is sound after it
pub record StepsOn (g : Around) (words : List Instruction) (constants : List Kept) (heap : Heap) (cells : List Cell) (r : List Kept) (pc fuel : ℕ)
    (heap' : Heap) (cells' : List Cell) (s : List Kept) (to left : ℕ) : Type 0 where
  pub ready : Ready g words constants heap' cells' s to left
  pub runs : (heap0 : Heap) (cells0 : List Cell) (r0 : List Kept) (pc0 fuel0 : ℕ) → Runs g heap0 cells0 r0 pc0 fuel0 heap cells r pc fuel → Runs g heap0 cells0 r0 pc0 fuel0 heap' cells' s to left

abbrev pub DoingIsStep : Type 0
DoingIsStep = (g : Around) (words : List Instruction) (constants : List Kept) (heap : Heap) (cells : List Cell) (r : List Kept) (pc fuel : ℕ)
    (op : Opcode) (w : Instruction) (heap' : Heap) (cells' : List Cell) (s : List Kept) (to left : ℕ)
    → Ready g words constants heap cells r pc fuel → IsAt op w words constants r pc → Does op w words constants heap cells r pc fuel heap' cells' s to left
    → StepsOn g words constants heap cells r pc fuel heap' cells' s to left

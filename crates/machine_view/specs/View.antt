-- The registers of the running frame as the machine keeps them, and what one instruction does there, in the words of the machine's meaning.
use Rattle.std.specs.Prelude.{◌≡◌, ℕ, ◌<◌, ◌≤◌, List, [], length, map, Some, slice_get}
use Rattle.code_core.specs.declared.instruction.Instruction.{Instruction}
use Rattle.code_core.specs.declared.opcode.Opcode.{Opcode}
use Rattle.code_core.specs.Check.{CodeIsChecked}
use Rattle.code_core.specs.Instruction.{opcode_of}
use Rattle.code_core.specs.Prototype.{Prototype}
use Rattle.int_core.specs.Heap.{Heap}
use Rattle.int_core.specs.Value.{Value, known}
use Rattle.lua_heap.specs.Reading.{value}
use Rattle.lua_heap.specs.Strings.{AreApart, AreShort}
use Rattle.machine_core.specs.World.{Cell, World}
use Rattle.machine_core.specs.Text.{constant}
use Rattle.machine_core.specs.Moves.{Row}
use Rattle.machine_core.specs.InstructionRows.{row_of}
use Rattle.machine_focus.specs.Focus.{Context, Held, world, local, Reaches}
use Rattle.machine_focus.specs.Law.{IsReady}
use Rattle.table_core.specs.declared.value.Value.{Value as Kept}

-- what no instruction of the frame changes: the rows of the primitives, the strings, the context, and what else the activation has
pub record Around : Type 0 where
  pub rows : ℕ → Row
  pub primitives : ℕ
  pub texts : List (List ℕ)
  pub context : Context
  pub varargs : List Value
  pub pending : List ℕ
  pub opened : ℕ

-- what instructions change, with the registers as they are kept
abbrev pub held : Around → Heap → List Cell → (registers : List Kept) → (pc fuel : ℕ) → Held
held g heap cells registers pc fuel = record {
  heap = heap;
  cells = cells;
  fuel = fuel;
  own = record { pc = pc; registers = map (value g.texts) registers; varargs = g.varargs; pending = g.pending; opened = g.opened };
}

abbrev pub whole : Around → Heap → List Cell → (registers : List Kept) → (pc fuel : ℕ) → World
whole g heap cells registers pc fuel = world g.context (held g heap cells registers pc fuel)

-- words and constants are those of a function's code
pub record AreOf (code : Prototype) (texts : List (List ℕ)) (words : List Instruction) (constants : List Kept) : Type 0 where
  pub words_are : code.own.code ≡ words
  pub constants_are : map (λ k. known (constant k)) code.own.constants ≡ map (value texts) constants

-- they are those of the function that runs, and its strings are each there once
pub record IsCode (g : Around) (words : List Instruction) (constants : List Kept) : Type 0 where
  pub code : AreOf g.context.closure.code g.texts words constants
  pub apart : AreApart g.texts
  pub short : AreShort g.texts

-- an instruction of checked code is at a place, and its frame has the registers that the code asks for
pub record IsAt (op : Opcode) (w : Instruction) (words : List Instruction) (constants registers : List Kept) (pc : ℕ) : Type 0 where
  pub code : Prototype
  pub texts : List (List ℕ)
  pub is_code : AreOf code texts words constants
  pub checked : CodeIsChecked code
  pub at_pc : slice_get words pc ≡ Some w
  pub is_opcode : opcode_of w ≡ Some op
  pub size : code.own.stack ≤ length registers

-- an instruction leads from there to here, which is a place of the code
pub record Does (op : Opcode) (w : Instruction) (words : List Instruction) (constants : List Kept) (heap : Heap) (cells : List Cell) (r : List Kept) (pc fuel : ℕ)
    (heap' : Heap) (cells' : List Cell) (s : List Kept) (to left : ℕ) : Type 0 where
  pub inside : to < length words
  pub leads : (g : Around) → IsCode g words constants → local g.context (row_of g.context.closure.code pc op w) [] (held g heap cells r pc fuel) ≡ Some (held g heap' cells' s to left)

-- it changes registers, the place and the budget alone, whatever the heap and the cells are
pub record Goes (op : Opcode) (w : Instruction) (words : List Instruction) (constants r : List Kept) (pc fuel : ℕ) (s : List Kept) (to left : ℕ) : Type 0 where
  pub does : (heap : Heap) (cells : List Cell) → Does op w words constants heap cells r pc fuel heap cells s to left

-- the loop is at a place of a sound world
pub record Ready (g : Around) (words : List Instruction) (constants : List Kept) (heap : Heap) (cells : List Cell) (r : List Kept) (pc fuel : ℕ) : Type 0 where
  pub code : IsCode g words constants
  pub frame : IsReady g.primitives g.rows g.context (held g heap cells r pc fuel)

-- some steps of the machine lead from there to here
abbrev pub Runs : Around → Heap → List Cell → (r : List Kept) → (pc fuel : ℕ) → Heap → List Cell → (s : List Kept) → (to left : ℕ) → Type 0
Runs g heap cells r pc fuel heap' cells' s to left = Reaches g.rows (whole g heap cells r pc fuel) (whole g heap' cells' s to left)

-- The running frame with the objects that stand beside its registers, and what one instruction does to them, in the words of the machine's meaning.
use Rattle.std.specs.Prelude.{◌≡◌, ℕ, ◌<◌, List, [], length, map, Option, Some, None}
use Rattle.code_core.specs.declared.instruction.Instruction.{Instruction}
use Rattle.code_core.specs.declared.opcode.Opcode.{Opcode}
use Rattle.lua_heap.specs.Plain.{heap, cell}
use Rattle.lua_heap.specs.declared.world.Cell.{Cell}
use Rattle.lua_heap.specs.declared.world.Cell.TheVariants.{Closed, Open}
use Rattle.machine_arms_tables.specs.declared.closure.Closure.{Closure}
use Rattle.machine_core.specs.World.{World}
use Rattle.machine_core.specs.FrameRows.{expand}
use Rattle.machine_core.specs.InstructionRows.{row_of}
use Rattle.machine_core.specs.Moves.{go, ends, run}
use Rattle.machine_focus.specs.Focus.{Stands, Reaches}
use Rattle.machine_view.specs.View.{Around, IsCode, Ready, whole}
use Rattle.table_core.specs.Table.{Contents}
use Rattle.table_core.specs.declared.value.CellId.{CellId}
use Rattle.table_core.specs.declared.value.CoroId.{CoroId}
use Rattle.table_core.specs.declared.value.Value.{Value}

-- what no instruction of the frame changes: the function's words and constants, the cells of its upvalues, and the strings
pub record Code : Type 0 where
  pub words : List Instruction
  pub constants : List Value
  pub upvalues : List CellId
  pub texts : List (List ℕ)

abbrev pub code : Closure → List (List ℕ) → Code
code c texts = record { words = c.words.now; constants = c.constants.now; upvalues = c.upvalues.now; texts = texts }

-- what its instructions may change
pub record Moment : Type 0 where
  pub tables : List Contents
  pub cells : List Cell
  pub registers : List Value
  pub pc : ℕ
  pub fuel : ℕ

abbrev pub moment : List Contents → List Cell → List Value → (pc fuel : ℕ) → Moment
moment tables cells registers pc fuel = record { tables = tables; cells = cells; registers = registers; pc = pc; fuel = fuel }

-- the code is that of the function that runs, and the strings are those of the world
pub record IsOf (g : Around) (k : Code) : Type 0 where
  pub code : IsCode g k.words k.constants
  pub upvalues_are : g.context.closure.cells ≡ map (λ c. c.0) k.upvalues
  pub texts_are : g.texts ≡ k.texts

abbrev pub world_at : Around → (string_metatable : Option ℕ) → Moment → World
world_at g meta m = whole g (heap g.texts m.tables meta) (map (cell g.texts) m.cells) m.registers m.pc m.fuel

-- where a cell is open
abbrev pub open_place : Cell → Option (CoroId × ℕ × ℕ)
open_place (Closed v) = None
open_place (Open co frame register) = Some (co, frame, register)

-- the same cells are open, each at the same register
abbrev pub AreOpenAlike : List Cell → List Cell → Type 0
AreOpenAlike cells cells' = map open_place cells ≡ map open_place cells'

-- an instruction leads from one moment to another, at a place of the code, whatever stands around the frame
pub record Leads (op : Opcode) (w : Instruction) (k : Code) (m n : Moment) : Type 0 where
  pub inside : n.pc < length k.words
  pub opened : AreOpenAlike m.cells n.cells
  pub runs : (g : Around) (string_metatable : Option ℕ) → IsOf g k → Stands g.context
      → run (expand (row_of g.context.closure.code m.pc op w)) [] (world_at g string_metatable m) ≡ ends go (world_at g string_metatable n)

-- so it does whatever is left of the budget
pub record LeadsOn (op : Opcode) (w : Instruction) (k : Code) (pc to : ℕ) (tables tables' : List Contents) (cells cells' : List Cell) (registers registers' : List Value) : Type 0 where
  pub leads : (fuel : ℕ) → Leads op w k (moment tables cells registers pc fuel) (moment tables' cells' registers' to fuel)

-- a moment of a sound world
pub record IsReadyAt (g : Around) (string_metatable : Option ℕ) (k : Code) (m : Moment) : Type 0 where
  pub ready : Ready g k.words k.constants (heap g.texts m.tables string_metatable) (map (cell g.texts) m.cells) m.registers m.pc m.fuel
  pub upvalues_are : g.context.closure.cells ≡ map (λ c. c.0) k.upvalues
  pub texts_are : g.texts ≡ k.texts

-- some steps of the machine lead from one moment to another
abbrev pub RunsTo : Around → (string_metatable : Option ℕ) → Moment → Moment → Type 0
RunsTo g meta m n = Reaches g.rows (world_at g meta m) (world_at g meta n)

-- what an instruction did is a step, and the world is sound after it
pub record StepsOn (g : Around) (string_metatable : Option ℕ) (k : Code) (m n : Moment) : Type 0 where
  pub ready : IsReadyAt g string_metatable k n
  pub opened : AreOpenAlike m.cells n.cells
  pub runs : (start : Moment) → RunsTo g string_metatable start m → RunsTo g string_metatable start n

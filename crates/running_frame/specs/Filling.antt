-- One value of a constructor's list that goes to its table, as a change of a stack and of the tables.
use Rattle.std.specs.Prelude.{◌≡◌, ◌⊎◌, ◌+◌, ◌<◌, ℕ, Bool, true, false, List, [], ◌∷◌, Option, Some, length, map, slice_get, take}
use Rattle.code_core.specs.declared.instruction.Instruction.{Instruction}
use Rattle.code_core.specs.declared.opcode.Opcode.{Opcode}
use Rattle.code_core.specs.declared.opcode.Opcode.TheVariants.{SetList}
use Rattle.code_core.specs.Instruction.{a_of, b_of, c_of, k_of, opcode_of}
use Rattle.int_core.specs.Heap.{filled_table}
use Rattle.int_core.specs.Value.{a_table, object}
use Rattle.table_core.specs.Table.{Contents}
use Rattle.table_core.specs.declared.value.TableId.{TableId}
use Rattle.table_core.specs.declared.value.Value.{Value as Kept}
use Rattle.table_core.specs.declared.value.Value.TheVariants.{Table}
use Rattle.lua_stack.specs.Frames.{KeptStack, OnTop, TopBecomes, with_opened, with_pc, with_registers}
use Rattle.lua_heap.specs.declared.world.Cell.{Cell}
use Rattle.lua_heap.specs.Plain.{heap}
use Rattle.lua_heap.specs.Reading.{value as meant}
use Rattle.lua_heap.specs.Strings.{AreApart, AreShort}
use Rattle.machine_arms_tables.specs.Frame.{Code}
use Rattle.frame_calls.specs.declared.stop.Stop.{Stop}
use Rattle.running_frame.specs.Asking.{ReachesOut}

abbrev pub is_set_list : Option Opcode → Bool
is_set_list (Some SetList) = true
is_set_list _ = false

-- a value stands after an index of a table, whatever the strings are
pub record FillsTable (ts ts' : List Contents) (id : TableId) (last : ℕ) (item : Kept) : Type 0 where
  pub fills : (texts : List (List ℕ)) (meta : Option ℕ) → AreApart texts → AreShort texts
      → filled_table (heap texts ts meta) (object a_table id.0) last (meant texts item ∷ []) ≡ Some (heap texts ts' meta)

-- the one after a table's register does, no list is open, and the frame on top goes on after
pub record FillsOne (s u : KeptStack) (ts ts' : List Contents) (size : ℕ) (words : List Instruction) (pc : ℕ) (w : Instruction) : Type 0 where
  pub is_list : opcode_of w ≡ Some SetList
  pub near : k_of w ≡ false
  pub one : b_of w ≡ 1
  pub registers : List Kept
  pub are : OnTop s (λ f t. map f registers ≡ t.own.registers)
  pub id : TableId
  pub table : slice_get registers (a_of w) ≡ Some (Table id)
  pub item : Kept
  pub given : slice_get registers (a_of w + 1) ≡ Some item
  pub fills : FillsTable ts ts' id (c_of w) item
  pub within : pc + 1 < length words
  pub becomes : TopBecomes s u (λ f t. with_pc (pc + 1) (with_opened 0 (with_registers (take size t.own.registers) t)))

-- or what changes no table, for a unit of the budget or none
abbrev pub WritesOn : (co : ℕ) → Code → (s u : KeptStack) → (ts ts' : List Contents) → (meta : Option ℕ) → List Cell → Stop → (fuel left : ℕ) → Type 0
WritesOn co k s u ts ts' meta cells stop fuel left =
    (ReachesOut co k s u ts meta cells stop fuel left × (ts' ≡ ts)) ⊎ (FillsOne s u ts ts' stop.size stop.words.now stop.pc stop.word × (left ≡ fuel))

-- Fields that are found by handlers of `__index` which are no functions (Lua 5.4 manual, 2.4).
use Rattle.std.specs.Prelude.{◌≡◌, ◌+◌, ℕ, Bool, true, false, List, [], ◌∷◌, Option, Some, slice_set}
use Rattle.code_core.specs.declared.instruction.Instruction.{Instruction}
use Rattle.code_core.specs.declared.opcode.Opcode.{Opcode}
use Rattle.code_core.specs.declared.opcode.Opcode.TheVariants.{GetField, OpSelf}
use Rattle.code_core.specs.Instruction.{k_of, opcode_of}
use Rattle.std.specs.Option.{option_map}
use Rattle.int_core.specs.Operations.{does, found, index}
use Rattle.table_core.specs.Table.{Contents}
use Rattle.table_core.specs.declared.value.TableId.{TableId}
use Rattle.table_core.specs.declared.value.Value.{Value as Kept}
use Rattle.lua_heap.specs.Plain.{heap}
use Rattle.lua_heap.specs.Reading.{value}

-- the number of the metatable that all strings share
abbrev pub metatable_number : Option TableId → Option ℕ
metatable_number meta = option_map (λ id. id.0) meta

-- the field of an object at a key is found without a call
abbrev pub Finds : List (List ℕ) → List Contents → (string_metatable : Option ℕ) → (object key v : Kept) → Type 0
Finds texts tables meta object key v = does index (value texts object ∷ value texts key ∷ []) (heap texts tables meta) ≡ found (heap texts tables meta) (value texts v ∷ [])

-- the instruction that reads a field by a constant, and takes the object to a register or not
abbrev pub getter : (receives : Bool) → Opcode
getter true = OpSelf
getter false = GetField

pub record GetsField (receives : Bool) (w : Instruction) : Type 0 where
  pub is : opcode_of w ≡ Some (getter receives)
  pub constant : receives ≡ true → k_of w ≡ true

-- what it leaves in the registers
abbrev pub with_found : (receives : Bool) → (n : ℕ) → (object v : Kept) → List Kept → List Kept
with_found true n object v registers = slice_set (slice_set registers (n + 1) object) n v
with_found false n object v registers = slice_set registers n v

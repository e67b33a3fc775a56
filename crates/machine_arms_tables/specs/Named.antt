-- The object and the key that an instruction on a field names.
use Rattle.std.specs.Prelude.{ℕ, Bool, true, false, cond, not, pos, List, Option, Some, None, is_some, slice_get, IsTrue}
use Rattle.code_core.specs.Instruction.{a_of, b_of, c_of}
use Rattle.code_core.specs.declared.instruction.Instruction.{Instruction}
use Rattle.code_core.specs.declared.opcode.Opcode.{Opcode}
use Rattle.code_core.specs.declared.opcode.Opcode.TheVariants.{GetTabUp, GetTable, GetI, GetField, SetTabUp, SetTable, SetI, SetField}
use Rattle.lua_heap.specs.declared.world.Cell.{Cell}
use Rattle.machine_arms_tables.specs.Fields.{upvalue_in}
use Rattle.machine_arms_tables.specs.Frame.{Code}
use Rattle.machine_arms_tables.specs.Leading.{IsSite}
use Rattle.machine_arms_tables.specs.declared.site.Site.{Site}
use Rattle.machine_arms_tables.specs.declared.names.KeyIn.{KeyIn}
use Rattle.machine_arms_tables.specs.declared.names.KeyIn.TheVariants.{Register, Constant, Number}
use Rattle.table_core.specs.declared.value.Value.{Value}
use Rattle.table_core.specs.declared.value.Value.TheVariants.{Int}

-- how an instruction names a field: whether it stores there, whether the object is an upvalue and no register, and what the number of the key stands for
pub record Naming : Type 0 where
  pub stores : Bool
  pub in_upvalue : Bool
  pub key : KeyIn

abbrev pub naming_of : Opcode → Option Naming
naming_of GetTabUp = Some (record { stores = false; in_upvalue = true; key = Constant })
naming_of GetTable = Some (record { stores = false; in_upvalue = false; key = Register })
naming_of GetI = Some (record { stores = false; in_upvalue = false; key = Number })
naming_of GetField = Some (record { stores = false; in_upvalue = false; key = Constant })
naming_of SetTabUp = Some (record { stores = true; in_upvalue = true; key = Constant })
naming_of SetTable = Some (record { stores = true; in_upvalue = false; key = Register })
naming_of SetI = Some (record { stores = true; in_upvalue = false; key = Number })
naming_of SetField = Some (record { stores = true; in_upvalue = false; key = Constant })
naming_of _ = None

abbrev pub names_field : Opcode → Bool
names_field op = is_some (naming_of op)

abbrev pub reads_field : Opcode → Bool
reads_field op = elim (naming_of op) [ None ↦ false | Some n ↦ not n.stores ]

abbrev pub stores_field : Opcode → Bool
stores_field op = elim (naming_of op) [ None ↦ false | Some n ↦ n.stores ]

-- such an instruction stands at a place of the code
pub record IsOnField (op : Opcode) (s : Site) (registers : List Value) : Type 0 where
  pub at : IsSite op s registers
  pub form : IsTrue (names_field op)

-- the object: an upvalue or a register
abbrev pub in_upvalue : Opcode → Bool
in_upvalue op = elim (naming_of op) [ None ↦ false | Some n ↦ n.in_upvalue ]

abbrev pub object_number : Opcode → Instruction → ℕ
object_number op w = cond (stores_field op) (a_of w) (b_of w)

abbrev pub object_of : Opcode → Code → List Cell → (registers : List Value) → Instruction → Option Value
object_of op k cs r w = cond (in_upvalue op) (upvalue_in k.upvalues cs (object_number op w)) (slice_get r (object_number op w))

-- the key: a register, a constant, or a number that stands in the instruction
abbrev pub key_in : Opcode → KeyIn
key_in op = elim (naming_of op) [ None ↦ Constant | Some n ↦ n.key ]

abbrev pub key_number : Opcode → Instruction → ℕ
key_number op w = cond (stores_field op) (b_of w) (c_of w)

abbrev pub key_at : KeyIn → Code → (registers : List Value) → ℕ → Option Value
key_at Register k r n = slice_get r n
key_at Constant k r n = slice_get k.constants n
key_at Number k r n = Some (Int (pos n))

abbrev pub key_of : Opcode → Code → (registers : List Value) → Instruction → Option Value
key_of op k r w = key_at (key_in op) k r (key_number op w)

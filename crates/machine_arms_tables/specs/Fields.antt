-- Fields that are read and written without a handler, in tables as they are kept, and cells that are closed (Lua 5.4 manual, 2.4 and 3.5).
use Rattle.std.specs.Prelude.{◌≡◌, ℕ, Bool, true, cond, not, List, map, Option, Some, None, slice_get, slice_set}
use Rattle.int_core.specs.Operations.{Operation, found, does, handler_in, of_newindex}
use Rattle.int_core.specs.Rows.{get, set}
use Rattle.int_core.specs.Value.{a_table, bind, object, is_nil as is_nothing}
use Rattle.lua_heap.specs.Plain.{heap}
use Rattle.lua_heap.specs.Reading.{value}
use Rattle.lua_heap.specs.Strings.{AreApart, AreShort}
use Rattle.lua_heap.specs.declared.world.Cell.{Cell}
use Rattle.lua_heap.specs.declared.world.Cell.TheVariants.{Closed, Open}
use Rattle.table_core.specs.Table.{Contents}
use Rattle.table_core.specs.Value.{is_nil, lua_values}
use Rattle.table_core.specs.declared.value.CellId.{CellId}
use Rattle.table_core.specs.declared.value.StrId.{StrId}
use Rattle.table_core.specs.declared.value.TableId.{TableId}
use Rattle.table_core.specs.declared.value.Value.{Value}
use Rattle.table_core.specs.declared.value.Value.TheVariants.{Str, Table}

-- no handler decides at a key that has a value, nor in a table without a metatable
abbrev pub is_raw : Contents → Value → Bool
is_raw t key = elim t.metatable [ None ↦ true | Some _ ↦ not (is_nil (get lua_values t.rows key)) ]

abbrev pub field_in : Contents → Value → Option Value
field_in t key = cond (is_raw t key) (Some (get lua_values t.rows key)) None

abbrev pub field_at_once : List Contents → Value → Value → Option Value
field_at_once tables (Table id) key = bind (slice_get tables id.0) (λ t. field_in t key)
field_at_once tables _ key = None

-- the table that the metatable of a table has at a name

abbrev pub metatable_at : List Contents → Value → Option TableId
metatable_at tables (Table id) = bind (slice_get tables id.0) (λ t. t.metatable)
metatable_at tables _ = None

abbrev pub table_only : Value → Option Value
table_only (Table id) = Some (Table id)
table_only _ = None

abbrev pub table_named : List Contents → TableId → (name : StrId) → Option Value
table_named tables id name = bind (slice_get tables id.0) (λ t. table_only (get lua_values t.rows (Str name)))

abbrev pub table_above : List Contents → (name : StrId) → Value → Option Value
table_above tables name o = bind (metatable_at tables o) (λ id. table_named tables id name)

-- nil is no key
abbrev pub takes : Contents → Value → Bool
takes t key = cond (is_nil key) (not true) (is_raw t key)

abbrev pub with_field : Contents → (key v : Value) → Contents
with_field t key v = record t { rows = set lua_values t.rows key v }

-- a table's metatable has no handler for stores, whatever the metatable of strings is
abbrev pub LacksHandler : List (List ℕ) → List Contents → ℕ → Type 0
LacksHandler texts tables n = (meta : Option ℕ) → is_nothing (handler_in (heap texts tables meta) of_newindex (object a_table n)) ≡ true

-- an operation on values is settled at once, and leaves the tables so
pub record Settles (texts : List (List ℕ)) (op : Operation) (operands : List Value) (tables tables' : List Contents) (values : List Value) : Type 0 where
  pub settled : (string_metatable : Option ℕ) → AreApart texts → AreShort texts
      → does op (map (value texts) operands) (heap texts tables string_metatable) ≡ found (heap texts tables' string_metatable) (map (value texts) values)

-- the value of an upvalue whose cell is closed
abbrev pub closed_value : Cell → Option Value
closed_value (Closed v) = Some v
closed_value (Open coro frame register) = None

abbrev pub upvalue_in : List CellId → List Cell → ℕ → Option Value
upvalue_in upvalues cells n = bind (slice_get upvalues n) (λ id. bind (slice_get cells id.0) closed_value)

-- the cells with another value in the one of an upvalue, where that is closed
abbrev pub with_upvalue : List CellId → List Cell → ℕ → Value → Option (List Cell)
with_upvalue upvalues cells n v = bind (slice_get upvalues n) (λ id. bind (slice_get cells id.0) (λ c. bind (closed_value c) (λ _. Some (slice_set cells id.0 (Closed v)))))

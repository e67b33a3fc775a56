-- The tables, the strings and the metatable of strings, as the heap of the definitions: that of a world which has these parts.
use Rattle.std.specs.Prelude.{ℕ, ◌<◌, List, Option, Some, None, length}
use Rattle.std.specs.Option.{option_map}
use Rattle.int_core.specs.Heap.{Heap, raw_get, metatable_of}
use Rattle.int_core.specs.Value.{Value, known, nil, string, object, a_table}
use Rattle.table_core.specs.Table.{Contents}
use Rattle.table_core.specs.declared.value.TableId.{TableId}
use Rattle.table_core.specs.declared.value.Value.{Value as Kept}
use Rattle.table_core.specs.declared.value.Value.TheVariants.{Str, Table}
use Rattle.lua_heap.specs.Plain.{heap}
use Rattle.meta_ops.specs.declared.heap.Heap.{Heap as Parts}

abbrev pub heap_in : List (List ℕ) → List Contents → Option TableId → Heap
heap_in texts tables string_meta = heap texts tables (option_map (λ m. m.0) string_meta)

abbrev pub heap_of : Parts → Heap
heap_of parts = heap_in parts.strings.now parts.tables.now.objects parts.string_meta

-- a field of a table by its name, or nil
abbrev pub row_field : Heap → ℕ → List ℕ → Value
row_field H n name = elim (raw_get H (object a_table n) (known (string name))) [ None ↦ known nil | Some v ↦ v ]

-- a field of a value's metatable by its name, or nil
abbrev pub field_in : Heap → List ℕ → Value → Value
field_in H name v = elim (metatable_of H v) [ None ↦ known nil | Some m ↦ row_field H m name ]

-- a string's number is that of a string, and a table's that of a table
abbrev pub IsIn : List (List ℕ) → List Contents → Kept → Type 0
IsIn texts tables (Str id) = id.0 < length texts
IsIn texts tables (Table id) = id.0 < length tables
IsIn texts tables _ = Unit {0}

abbrev pub IsThere : Parts → Kept → Type 0
IsThere parts v = IsIn parts.strings.now parts.tables.now.objects v

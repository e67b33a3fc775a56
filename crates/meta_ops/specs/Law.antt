-- What callers of operations may rest on.
use Rattle.std.specs.Prelude.{◌≡◌, ℕ, List, Option, length, map}
use Rattle.machine_sound.specs.Sound.{Sizes, Each, Valid, TableOk}
use Rattle.table_core.specs.Table.{Contents}
use Rattle.table_core.specs.declared.value.TableId.{TableId}
use Rattle.table_core.specs.declared.value.Value.{Value}
use Rattle.lua_heap.specs.Plain.{table}
use Rattle.lua_heap.specs.Reading.{value}
use Rattle.lua_heap.specs.Strings.{interned}
use Rattle.meta_ops.specs.Heap.{heap_in, IsIn}

abbrev pub OperandsAreThere : Type 0
OperandsAreThere = (z : Sizes) (texts : List (List ℕ)) (tables : List Contents) (v : Value) → z.tables ≡ length tables → Valid z (value texts v) → IsIn texts tables v

abbrev pub HeapStays : Type 0
HeapStays = (z : Sizes) (texts : List (List ℕ)) (text : List ℕ) (tables : List Contents) (string_meta : Option TableId)
    → Each (TableOk z) (map (table texts) tables) → heap_in (interned texts text) tables string_meta ≡ heap_in texts tables string_meta

-- What operations on values look at: the tables by number, and the metatable that all strings share (Lua 5.4 manual, 2.1 and 2.4).
use Rattle.std.specs.Prelude.{ℕ, suc, pos, List, [], ◌∷◌, ◌++◌, Option, Some, None, slice_get, slice_set}
use Rattle.int_core.specs.Rows.{get, set}
use Rattle.int_core.specs.Value.{Value, known, object, string, integer, a_table, table_values, bind}

pub record Table : Type 0 where
  pub rows : List (Value × Value)
  pub metatable : Option ℕ

pub record Heap : Type 0 where
  pub tables : List Table
  pub string_metatable : Option ℕ

abbrev pub raw_get : Heap → Value → Value → Option Value
raw_get H (object a_table n) key = bind (slice_get H.tables n) (λ t. Some (get table_values t.rows key))
raw_get H _ key = None

unfoldable pub raw_set : Heap → ℕ → Value → Value → Heap
raw_set H n key value = elim (slice_get H.tables n) [
  | None ↦ H
  | Some t ↦ record H { tables = slice_set H.tables n (record t { rows = set table_values t.rows key value }) }
]

abbrev pub metatable_of : Heap → Value → Option ℕ
metatable_of H (object a_table n) = bind (slice_get H.tables n) (λ t. t.metatable)
metatable_of H (known (string s)) = H.string_metatable
metatable_of H _ = None

-- a list put behind an index of a table, one value after another
abbrev pub filled : ℕ → List Value → List (Value × Value) → List (Value × Value)
filled last [] rows = rows
filled last (v ∷ vs) rows = filled (suc last) vs (set table_values rows (known (integer (pos (suc last)))) v)

abbrev pub filled_table : Heap → Value → ℕ → List Value → Option Heap
filled_table H (object a_table n) last vs = bind (slice_get H.tables n) (λ t.
    Some (record H { tables = slice_set H.tables n (record t { rows = filled last vs t.rows }) }))
filled_table H v last vs = None

-- a new table without rows comes last
abbrev pub add_table : Heap → Heap
add_table H = record H { tables = H.tables ++ record { rows = []; metatable = None } ∷ [] }

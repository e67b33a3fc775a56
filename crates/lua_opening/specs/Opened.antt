-- The libraries' tables in the words of their definitions, and what a table in memory has of them.
use Rattle.std.specs.Prelude.{◌≡◌, ℕ, ◌≤◌, Bool, true, ◌&&◌, List, [], ◌∷◌, ◌++◌, map, length, nat_le, None}
use Rattle.int_core.specs.Heap.{Table as Meant}
use Rattle.int_core.specs.Rows.{set}
use Rattle.int_core.specs.Value.{string, integer, primitive, a_table, a_function, Value, known, object, table_values, greatest_string}
use Rattle.code_core.specs.Prototype.{Prototype}
use Rattle.library_rows.specs.Library.{of_globals, of_coroutine, of_string, of_table, of_math, of_utf8, Entry}
use Rattle.lua_meaning.specs.Libraries.{library_table, environment, strings_meta}
use Rattle.table_core.specs.declared.value.Value.{Value as Kept}
use Rattle.table_core.specs.Value.{lua_values}
use Rattle.table_core.specs.Table.{Contents}
use Rattle.lua_heap.specs.Adding.{Begins}
use Rattle.lua_heap.specs.Reading.{row}
use Rattle.lua_opening.specs.declared.rows.Item.{Item}
use Rattle.lua_opening.specs.declared.rows.Item.TheVariants.{Primitive, Function, Table, Integer, Text}

-- the tables of the libraries by their numbers
abbrev pub tables_of : List (Entry Prototype) → List Meant
tables_of prelude =
    library_table of_globals prelude ∷ environment prelude ∷ library_table of_coroutine prelude ∷ library_table of_string prelude
    ∷ library_table of_table prelude ∷ library_table of_math prelude ∷ library_table of_utf8 prelude ∷ strings_meta ∷ []

-- items

abbrev pub item_value : Item → Value
item_value (Primitive n) = known (primitive n)
item_value (Function n) = object a_function n
item_value (Table n) = object a_table n
item_value (Integer n) = known (integer n)
item_value (Text text) = known (string text.now)

-- the row of a name
abbrev pub meant : (name : List ℕ) → Item → Value × Value
meant name item = (known (string name), item_value item)

abbrev pub IsShort : Item → Type 0
IsShort (Text text) = length text.now ≤ greatest_string
IsShort _ = Unit {0}

abbrev pub is_short : Item → Bool
is_short (Text text) = nat_le (length text.now) greatest_string
is_short _ = true

abbrev pub fits : (name : List ℕ) → Item → Bool
fits name item = nat_le (length name) greatest_string && is_short item

-- rows

-- written one after another
abbrev pub set_all : List (Value × Value) → List (Value × Value) → List (Value × Value)
set_all rows [] = rows
set_all rows (r ∷ rs) = set_all (set table_values rows r.0 r.1) rs

abbrev pub kept_all : List (Kept × Kept) → List (Kept × Kept) → List (Kept × Kept)
kept_all rows [] = rows
kept_all rows (r ∷ rs) = kept_all (set lua_values rows r.0 r.1) rs

-- these rows were written into an empty table; strings that come later change none of them
pub record Filled (texts : List (List ℕ)) (t : Contents) (written : List (Value × Value)) : Type 0 where
  pub pairs : List (Kept × Kept)
  pub read : (more : List (List ℕ)) → map (row (texts ++ more)) pairs ≡ written
  pub rows : t.rows ≡ kept_all [] pairs
  pub metatable : t.metatable ≡ None

-- a table with these rows stands behind the others
pub record AddsTable (old_texts new_texts : List (List ℕ)) (old new : List Contents) (written : List (Value × Value)) : Type 0 where
  pub strings : Begins (List ℕ) old_texts new_texts
  pub made : Contents
  pub filled : Filled new_texts made written
  pub objects : new ≡ old ++ made ∷ []

-- so it stands for a table of the definitions
pub record IsTable (texts : List (List ℕ)) (t : Contents) (means : Meant) : Type 0 where
  pub written : List (Value × Value)
  pub filled : Filled texts t written
  pub is : means ≡ record { rows = set_all [] written; metatable = None }

abbrev pub AreTables : List (List ℕ) → List Contents → List Meant → Type 0
AreTables texts [] [] = Unit {0}
AreTables texts (t ∷ ts) (m ∷ ms) = IsTable texts t m × AreTables texts ts ms
AreTables texts _ _ = ⊥

-- The tables of the libraries as a script finds them (Lua 5.4 manual, 6): the primitives by the libraries' numbers, the values that are no
-- functions, and the functions of the prelude, which are Lua text. What these are made of, F, is left open. The rows of each table stand in the order of
-- their names.
use Rattle.std.specs.Prelude.{ℕ, suc, Bool, true, false, cond, List, [], ◌∷◌, ◌++◌, map, filter, Some, None, bytes_eq, codes}
use Rattle.std.specs.List.{list_any}
use Rattle.int_core.specs.Value.{Plain, string, primitive, a_table, a_function, Value, known, object}
use Rattle.int_core.specs.Heap.{Table, Heap}
use Rattle.int_core.specs.Operations.{before}
use Rattle.library_rows.specs.Library.{Library, of_globals, of_coroutine, of_string, of_table, of_math, of_utf8, of_prelude, Primitive, Entry, entry, all_entries, constants}

-- tables by number. Scripts cannot reach that of the prelude's variables, its environment

abbrev pub globals_table : ℕ
globals_table = 0

abbrev pub environment_table : ℕ
environment_table = 1

abbrev pub coroutine_table : ℕ
coroutine_table = 2

abbrev pub string_table : ℕ
string_table = 3

abbrev pub table_table : ℕ
table_table = 4

abbrev pub math_table : ℕ
math_table = 5

abbrev pub utf8_table : ℕ
utf8_table = 6

-- the metatable of all strings
abbrev pub strings_metatable : ℕ
strings_metatable = 7

-- what stands in the tables

abbrev pub library_tables : List (Entry Value)
library_tables =
    entry of_globals (codes "_G") (object a_table globals_table)
    ∷ entry of_globals (codes "coroutine") (object a_table coroutine_table)
    ∷ entry of_globals (codes "math") (object a_table math_table)
    ∷ entry of_globals (codes "string") (object a_table string_table)
    ∷ entry of_globals (codes "table") (object a_table table_table)
    ∷ entry of_globals (codes "utf8") (object a_table utf8_table) ∷ []

abbrev pub plain_value : Entry Plain → Entry Value
plain_value e = entry e.library e.name (known e.entry)

abbrev pub primitives_from : (number : ℕ) → List (Entry Primitive) → List (Entry Value)
primitives_from n [] = []
primitives_from n (e ∷ es) = entry e.library e.name (known (primitive n)) ∷ primitives_from (suc n) es

-- the prelude's functions are the first ones, in the order of their text
abbrev pub functions_from : {F : Type 0} → (number : ℕ) → List (Entry F) → List (Entry Value)
functions_from n [] = []
functions_from n (e ∷ es) = entry e.library e.name (object a_function n) ∷ functions_from (suc n) es

-- a primitive's number is its place among all
unfoldable pub primitive_values : List (Entry Value)
primitive_values = primitives_from 0 all_entries

unfoldable pub constant_values : List (Entry Value)
constant_values = library_tables ++ map plain_value constants

abbrev pub function_values : {F : Type 0} → List (Entry F) → List (Entry Value)
function_values prelude = primitive_values ++ functions_from 0 prelude

abbrev pub library_values : {F : Type 0} → List (Entry F) → List (Entry Value)
library_values prelude = constant_values ++ function_values prelude

-- tables of them

abbrev pub same_library : Library → Library → Bool
same_library of_globals of_globals = true
same_library of_coroutine of_coroutine = true
same_library of_string of_string = true
same_library of_table of_table = true
same_library of_math of_math = true
same_library of_utf8 of_utf8 = true
same_library of_prelude of_prelude = true
same_library _ _ = false

abbrev pub put_by_name : Entry Value → List (Entry Value) → List (Entry Value)
put_by_name x [] = x ∷ []
put_by_name x (y ∷ ys) = cond (before x.name y.name) (x ∷ y ∷ ys) (y ∷ put_by_name x ys)

-- in ascending order of the names' bytes
abbrev pub by_name : List (Entry Value) → List (Entry Value)
by_name [] = []
by_name (x ∷ xs) = put_by_name x (by_name xs)

abbrev pub row_of_entry : Entry Value → Value × Value
row_of_entry e = (known (string e.name), e.entry)

abbrev pub table_of : List (Entry Value) → Table
table_of entries = record { rows = map row_of_entry (by_name entries); metatable = None }

abbrev pub is_in : Library → Entry Value → Bool
is_in library e = same_library library e.library

-- the table of a library
unfoldable pub library_table : {F : Type 0} → Library → List (Entry F) → Table
library_table library prelude = table_of (filter (is_in library) (library_values prelude))

-- of several entries with one name the first counts: `type` is that of values, `char` and `len` are those of strings

abbrev pub is_named : List ℕ → Entry Value → Bool
is_named name e = bytes_eq name e.name

abbrev pub first_of_each : (seen : List (Entry Value)) → List (Entry Value) → List (Entry Value)
first_of_each seen [] = []
first_of_each seen (e ∷ es) = cond (list_any (is_named e.name) seen) (first_of_each seen es) (e ∷ first_of_each (e ∷ seen) es)

-- the prelude's environment: all functions by their last names
unfoldable pub environment : {F : Type 0} → List (Entry F) → Table
environment prelude = table_of (first_of_each [] (function_values prelude))

-- by `__index` a string has the functions of its library as methods
abbrev pub strings_meta : Table
strings_meta = record { rows = (known (string (codes "__index")), object a_table string_table) ∷ []; metatable = None }

-- the tables by their numbers
abbrev pub library_heap : {F : Type 0} → List (Entry F) → Heap
library_heap prelude = record {
  tables =
      library_table of_globals prelude ∷ environment prelude ∷ library_table of_coroutine prelude ∷ library_table of_string prelude
      ∷ library_table of_table prelude ∷ library_table of_math prelude ∷ library_table of_utf8 prelude ∷ strings_meta ∷ [];
  string_metatable = Some strings_metatable;
}

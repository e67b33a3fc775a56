-- The operations of rows on the tables in memory: what each reads, tells and leaves.
use Rattle.std.specs.Prelude.{◌≡◌, ℕ, ℤ, true, false, List, [], ◌∷◌, map, Option, Some, None, Result, Ok, Err}
use Rattle.std.specs.Option.{option_map}
use Rattle.int_core.specs.Rows.{next}
use Rattle.int_core.specs.Value.{boolean, integer, Shape, is_known, same, table_values}
use Rattle.library_rows.specs.Look.{HeapOp, does_op, step, no_word}
use Rattle.table_core.specs.Value.{lua_values, value_eq}
use Rattle.table_core.specs.declared.table.NoSuchKey.{NoSuchKey}
use Rattle.table_core.specs.declared.value.TableId.{TableId}
use Rattle.table_core.specs.declared.value.Value.{Value as Kept}
use Rattle.table_core.specs.declared.value.Value.TheVariants.{Nil, Table}
use Rattle.lua_heap.specs.declared.world.World.{World as Memory}
use Rattle.lua_heap.specs.Law.{IsReadAs}
use Rattle.lua_heap.specs.Reading.{value, row}
use Rattle.lua_heap.specs.Strings.{AreApart, AreShort}
use Rattle.pure_functions.specs.Answers.{heap_of}

-- an operation over kept values: the values that it read, what it told, and the world after it
pub record Operates (op : HeapOp) (old : Memory) (arguments : List Kept) (new : Memory) (values : List Kept) (told : Shape) : Type 0 where
  pub does : does_op op (heap_of old) (map (value old.strings) arguments) ≡ step (heap_of new) (map (value old.strings) values) told
  pub rest : new ≡ record old { tables = new.tables }

abbrev pub table_or_nil : Option TableId → Kept
table_or_nil None = Nil
table_or_nil (Some id) = Table id

-- a border, where there is a table
abbrev pub told_border : Option ℤ → Shape
told_border None = no_word
told_border (Some n) = is_known (integer n)

abbrev pub read_row : Result (Option (Kept × Kept)) NoSuchKey → List Kept
read_row (Ok (Some found)) = found.0 ∷ found.1 ∷ []
read_row (Ok None) = []
read_row (Err why) = []

abbrev pub told_row : Result (Option (Kept × Kept)) NoSuchKey → Shape
told_row (Ok (Some found)) = is_known (boolean true)
told_row (Ok None) = is_known (boolean false)
told_row (Err why) = no_word

-- the row behind a key
abbrev pub IsFollowedAs : List (List ℕ) → List (Kept × Kept) → Kept → Type 0
IsFollowedAs texts rows key = next table_values (map (row texts) rows) (value texts key) ≡ option_map (option_map (row texts)) (next lua_values rows key)

abbrev pub RowsAreFollowedAlike : Type 0
RowsAreFollowedAlike = (texts : List (List ℕ)) → AreApart texts → AreShort texts → (rows : List (Kept × Kept)) (key : Kept) → IsFollowedAs texts rows key

-- what reads and writes of tables rest on
pub record AreAlike (texts : List (List ℕ)) : Type 0 where
  pub read : (rows : List (Kept × Kept)) → IsReadAs texts rows
  pub equal : (a b : Kept) → same (value texts a) (value texts b) ≡ value_eq a b
  pub followed : (rows : List (Kept × Kept)) (key : Kept) → IsFollowedAs texts rows key

-- What a library function that looks at values and tables alone does, as data: a list of operations on a heap. It sees the shapes of values, and
-- never an object's number; it names a value by its place among those that it has at hand, the newest first.
use Rattle.std.specs.Prelude.{ℕ, pos, true, false, List, [], ◌∷◌, ◌++◌, length, drop, Option, Some, None, slice_get, slice_set}
use Rattle.int_core.specs.Rows.{next, border}
use Rattle.int_core.specs.Value.{Plain, nil, boolean, integer, a_table, Value, known, object, Shape, is_known, shape, same, table_values, nth, bind}
use Rattle.int_core.specs.Heap.{Heap, raw_get, raw_set, metatable_of, add_table}

-- a value that a row names: one of those at hand, or one written out
pub data Arg : Type 0 where
  read : ℕ → Arg
  written : Plain → Arg

abbrev pub arg : List Value → Arg → Value
arg env (read n) = nth env n
arg env (written p) = known p

abbrev pub args_of : List Value → List Arg → List Value
args_of env [] = []
args_of env (x ∷ xs) = arg env x ∷ args_of env xs

-- each takes its first arguments; a missing one is nil
pub data HeapOp : Type 0 where
  -- the shape of a value
  look : HeapOp
  -- whether two values are the same
  compare : HeapOp
  -- the value at a key, without metamethods
  read_field : HeapOp
  -- a value put at a key, without metamethods
  write_field : HeapOp
  read_metatable : HeapOp
  -- a table's metatable becomes another one, or none
  write_metatable : HeapOp
  -- a table's least border
  border_of : HeapOp
  -- the first filled row after the row of a key
  row_after : HeapOp
  -- a new table without rows
  make_table : HeapOp

-- what an operation leaves, the values that it read, and what it told
pub record Step : Type 0 where
  pub heap : Heap
  pub values : List Value
  pub told : Shape

abbrev pub step : Heap → List Value → Shape → Step
step H vs s = record { heap = H; values = vs; told = s }

abbrev pub no_word : Shape
no_word = is_known nil

abbrev pub or_nil : Option Value → Value
or_nil None = known nil
or_nil (Some v) = v

abbrev pub table_or_nil : Option ℕ → Value
table_or_nil None = known nil
table_or_nil (Some n) = object a_table n

-- only a table has fields
abbrev pub put_field : Heap → Value → Value → Value → Heap
put_field H (object a_table n) k v = raw_set H n k v
put_field H _ k v = H

unfoldable pub put_metatable : Heap → Value → Option ℕ → Heap
put_metatable H (object a_table n) m = elim (slice_get H.tables n) [
  | None ↦ H
  | Some t ↦ record H { tables = slice_set H.tables n (record t { metatable = m }) }
]
put_metatable H v m = H

abbrev pub put_meta : Heap → Value → Value → Heap
put_meta H o (object a_table m) = put_metatable H o (Some m)
put_meta H o _ = put_metatable H o None

abbrev pub border_told : Option ℕ → Shape
border_told None = no_word
border_told (Some n) = is_known (integer (pos n))

abbrev pub border_in : Heap → Value → Option ℕ
border_in H (object a_table n) = bind (slice_get H.tables n) (λ t. Some (border table_values t.rows))
border_in H _ = None

-- true: there is a row; false: none is left; nil: the key has no row
abbrev pub row_step : Heap → Option (Option (Value × Value)) → Step
row_step H None = step H [] no_word
row_step H (Some None) = step H [] (is_known (boolean false))
row_step H (Some (Some row)) = step H (row.0 ∷ row.1 ∷ []) (is_known (boolean true))

abbrev pub row_in : Heap → Value → Value → Option (Option (Value × Value))
row_in H (object a_table n) key = bind (slice_get H.tables n) (λ t. next table_values t.rows key)
row_in H _ key = None

abbrev pub does_op : HeapOp → Heap → List Value → Step
does_op look H vs = step H [] (shape (nth vs 0))
does_op compare H vs = step H [] (is_known (boolean (same (nth vs 0) (nth vs 1))))
does_op read_field H vs = step H (or_nil (raw_get H (nth vs 0) (nth vs 1)) ∷ []) no_word
does_op write_field H vs = step (put_field H (nth vs 0) (nth vs 1) (nth vs 2)) [] no_word
does_op read_metatable H vs = step H (table_or_nil (metatable_of H (nth vs 0)) ∷ []) no_word
does_op write_metatable H vs = step (put_meta H (nth vs 0) (nth vs 1)) [] no_word
does_op border_of H vs = step H [] (border_told (border_in H (nth vs 0)))
does_op row_after H vs = row_step H (row_in H (nth vs 0) (nth vs 1))
does_op make_table H vs = step (add_table H) (object a_table (length H.tables) ∷ []) no_word

-- What comes after an operation is told a shape. The values that it read come before those at hand, so `read 0` is the newest.
pub data Look : Type 0 where
  gives : List Arg → Look
  -- these, and all at hand from a place on
  gives_all : List Arg → (slot : ℕ) → Look
  -- an error whose text gets the place of the caller before it
  refuses : List ℕ → Look
  -- an error whose value is handed on as it is
  raises : Arg → Look
  -- how many are at hand from a place on
  count : (slot : ℕ) → (ℕ → Look) → Look
  does : HeapOp → List Arg → (Shape → Look) → Look

-- a heap and results, the text of an error, or a heap and an error's value
pub data Done : Type 0 where
  done : Heap → List Value → Done
  refused : List ℕ → Done
  raised : Heap → Value → Done

-- what a row comes to over the values at hand; at first these are the arguments
abbrev pub looked : Look → List Value → Heap → Done
looked (gives xs) env H = done H (args_of env xs)
looked (gives_all xs slot) env H = done H (args_of env xs ++ drop slot env)
looked (refuses text) env H = refused text
looked (raises x) env H = raised H (arg env x)
looked (count slot k) env H = looked (k (length (drop slot env))) env H
looked (does op xs k) env H = looked (k (does_op op H (args_of env xs)).told) ((does_op op H (args_of env xs)).values ++ env) (does_op op H (args_of env xs)).heap

-- Rows of tables whose values all have a property.
use Rattle.std.proofs.Common.{ℕ, zero, suc, List, [], ◌∷◌, ◌++◌, Option, Some, refl, Bool, true, false, cond}
use Rattle.std.specs.Prelude.{pos, filter, if◌then◌else◌, nat_lt, count_by, unwrap_or}
use Rattle.std.specs.Map.{lookup, set_value}
use Rattle.int_core.specs.Rows.{get, set, kept, has_row, is_filled, is_cleared}
use Rattle.int_core.specs.Value.{nil, integer, Value, known, same, table_values}
use Rattle.int_core.specs.Heap.{filled}
use Rattle.machine_sound.specs.Sound.{Each}
use Rattle.machine_sound.proofs.Lists.{each_cons, each_tail, each_push, each_filter}

-- what holds of the values of a table's rows holds of what is read there, and stays so where such a value is written
module _ (P : Value → Type 0) where
  abbrev pub RowHas : Value × Value → Type 0
  RowHas row = P row.0 × P row.1

  pub get_has : P (known nil) → (rows : List (Value × Value)) (key : Value) → Each RowHas rows → P (get table_values rows key)
  get_has nothing rows key h = go rows h
    where
      pick : (b : Bool) (v : Value) (o : Option Value) → P v → P (unwrap_or o (known nil)) → P (unwrap_or (cond b (Some v) o) (known nil))
      pick true v o h k = h
      pick false v o h k = k

      go : (rows : List (Value × Value)) → Each RowHas rows → P (unwrap_or (lookup (same key) rows) (known nil))
      go [] h = nothing
      go (row ∷ rows) h = pick (same key row.0) row.1 (lookup (same key) rows) (h zero row refl).1 (go rows (each_tail RowHas row rows h))

  set_value_has : (test : Value → Bool) (rows : List (Value × Value)) (v : Value) → P v → Each RowHas rows → Each RowHas (set_value test rows v)
  set_value_has test [] v p h = h
  set_value_has test (row ∷ rows) v p h = pick (test row.0) (set_value_has test rows v p (each_tail RowHas row rows h))
    where
      pick : (b : Bool) → Each RowHas (set_value test rows v) → Each RowHas (cond b ((row.0, v) ∷ rows) (row ∷ set_value test rows v))
      pick true k = each_cons RowHas (row.0, v) rows ((h zero row refl).0, p) (each_tail RowHas row rows h)
      pick false k = each_cons RowHas row (set_value test rows v) (h zero row refl) k

  kept_has : (rows : List (Value × Value)) → Each RowHas rows → Each RowHas (kept table_values rows)
  kept_has rows h = pick (nat_lt (count_by (is_filled table_values) rows) (count_by (is_cleared table_values) rows))
    where
      pick : (b : Bool) → Each RowHas (if b then filter (is_filled table_values) rows else rows)
      pick true = each_filter RowHas (is_filled table_values) rows h
      pick false = h

  pub set_has : (rows : List (Value × Value)) (key v : Value) → P key → P v → Each RowHas rows → Each RowHas (set table_values rows key v)
  set_has rows key v k p h = pick (has_row table_values rows key) (Rattle.int_core.specs.Rows.is_nil table_values v)
    where
      pick : (a b : Bool) → Each RowHas (if a then set_value (same key) rows v else if b then rows else kept table_values rows ++ (key, v) ∷ [])
      pick true b = set_value_has (same key) rows v p h
      pick false true = h
      pick false false = each_push RowHas (kept table_values rows) (key, v) (kept_has rows h) (k, p)

  pub filled_has : ((n : ℕ) → P (known (integer (pos n)))) → (last : ℕ) (vs : List Value) (rows : List (Value × Value)) → Each P vs → Each RowHas rows → Each RowHas (filled last vs rows)
  filled_has numbers last [] rows h k = k
  filled_has numbers last (v ∷ vs) rows h k = filled_has numbers (suc last) vs (set table_values rows (known (integer (pos (suc last)))) v) (each_tail P v vs h) (set_has rows (known (integer (pos (suc last)))) v (numbers (suc last)) (h zero v refl) k)

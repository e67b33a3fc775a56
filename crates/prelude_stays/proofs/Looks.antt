-- Library rows that look at values and tables alone give no environment, and never write it: one lemma an operation, and none a row.
use Rattle.std.proofs.Common.{ℕ, ◌+◌, ◌≡◌, List, [], ◌∷◌, ◌++◌, Option, Some, None, refl, length, drop, arith}
use Rattle.std.specs.Prelude.{slice_get, slice_set}
use Rattle.int_core.specs.Rows.{next}
use Rattle.int_core.specs.Value.{string, a_table, Value, known, object, table_values, nth, bind}
use Rattle.int_core.specs.Heap.{Table, Heap, raw_get, metatable_of, add_table}
use Rattle.library_rows.specs.Look.{args_of, HeapOp, read_field, write_field, read_metatable, write_metatable, row_after, make_table, or_nil, table_or_nil, put_field, put_metatable, put_meta, row_step, row_in, does_op, Look, gives, gives_all, refuses, raises, count, does, Done, done, refused, raised, looked}
use Rattle.machine_sound.specs.Sound.{Each, OptionOk}
use Rattle.machine_sound.proofs.Lists.{each_none, each_cons, each_one, each_append, each_push, each_drop, get_push_old, get_within}
use Rattle.machine_sound.proofs.Values.{nth_ok}
use Rattle.machine_sound.proofs.Looks.{next_ok}
use Rattle.prelude_stays.specs.Kept.{Home, Apart, RowOk, MetaOk, TableOk, HeapOk}
use Rattle.prelude_stays.proofs.Heaps.{raw_get_ok, raw_set_ok, put_table}
use Rattle.prelude_stays.proofs.Own.{arg_apart, args_apart}

-- tables

or_nil_ok : (e : ℕ) (o : Option Value) → OptionOk (Apart e) o → Apart e (or_nil o)
or_nil_ok e None k = tt
or_nil_ok e (Some v) k = k

meta_value_ok : (e : ℕ) (o : Option ℕ) → MetaOk e o → Apart e (table_or_nil o)
meta_value_ok e None k = tt
meta_value_ok e (Some n) k = k

pub new_table_ok : (y : Home) (H : Heap) → HeapOk y H → HeapOk y (add_table H)
new_table_ok y H h = record {
  made = get_push_old H.tables _ y.table y.made h.made;
  bare = h.bare;
  tables = each_push (TableOk y.table) H.tables _ h.tables (record { rows = each_none (RowOk y.table); metatable = tt });
  strings = h.strings;
}

-- a new table has another number
pub new_apart : (y : Home) (H : Heap) → HeapOk y H → Apart y.table (object a_table (length H.tables))
new_apart y H h = λ d. let l = get_within H.tables y.table y.made h.made in absurd (omega (arith, d, l))

module _ (y : Home) (H : Heap) (h : HeapOk y H) where
  metatable_ok : (v : Value) → MetaOk y.table (metatable_of H v)
  metatable_ok (known (string s)) = h.strings
  metatable_ok (object a_table n) = from (slice_get H.tables n) refl
    where
      from : (o : Option Table) → slice_get H.tables n ≡ o → MetaOk y.table (bind o (λ t. t.metatable))
      from None e = tt
      from (Some t) e = (h.tables n t e).metatable
  metatable_ok _ = tt

  write_ok : (o k v : Value) → Apart y.table o → Apart y.table k → Apart y.table v → HeapOk y (put_field H o k v)
  write_ok (object a_table n) k v d a b = raw_set_ok y H h n k v d a b
  write_ok _ k v d a b = h

  put_ok : (o : Value) (m : Option ℕ) → Apart y.table o → MetaOk y.table m → HeapOk y (put_metatable H o m)
  unfolding put_metatable
  put_ok (object a_table n) m d k = from (slice_get H.tables n) refl
    where
      from : (o : Option Table) → slice_get H.tables n ≡ o → HeapOk y (elim o [ None ↦ H | Some t ↦ record H { tables = slice_set H.tables n (record t { metatable = m }) } ])
      from None e = h
      from (Some t) e = put_table y H h n t (record t { metatable = m }) d (record { rows = (h.tables n t e).rows; metatable = k })
  put_ok _ m d k = h

  put_meta_ok : (o m : Value) → Apart y.table o → Apart y.table m → HeapOk y (put_meta H o m)
  put_meta_ok o (object a_table m) d k = put_ok o (Some m) d k
  put_meta_ok o _ d k = put_ok o None d tt

  row_ok : (o key : Value) (row : Value × Value) → row_in H o key ≡ Some (Some row) → RowOk y.table row
  row_ok (object a_table n) key row e = from (slice_get H.tables n) refl e
    where
      from : (o : Option Table) → slice_get H.tables n ≡ o → bind o (λ t. next table_values t.rows key) ≡ Some (Some row) → RowOk y.table row
      from None d e = absurd (cc)
      from (Some t) d e = next_ok (RowOk y.table) t.rows key row (h.tables n t d).rows e
  row_ok _ key row e = absurd (cc)

  rows_ok : (x : Option (Option (Value × Value))) → ((row : Value × Value) → x ≡ Some (Some row) → RowOk y.table row) → HeapOk y (row_step H x).heap × Each (Apart y.table) (row_step H x).values
  rows_ok None k = (h, each_none (Apart y.table))
  rows_ok (Some None) k = (h, each_none (Apart y.table))
  rows_ok (Some (Some row)) k = (h, each_cons (Apart y.table) row.0 (row.1 ∷ []) (k row refl).0 (each_one (Apart y.table) row.1 (k row refl).1))

  -- one lemma an operation
  op_ok : (op : HeapOp) (vs : List Value) → Each (Apart y.table) vs → HeapOk y (does_op op H vs).heap × Each (Apart y.table) (does_op op H vs).values
  op_ok read_field vs v = (h, each_one (Apart y.table) (or_nil (raw_get H (nth vs 0) (nth vs 1))) (or_nil_ok y.table (raw_get H (nth vs 0) (nth vs 1)) (raw_get_ok y H h (nth vs 0) (nth vs 1))))
  op_ok write_field vs v = (write_ok (nth vs 0) (nth vs 1) (nth vs 2) (nth_ok (Apart y.table) tt vs 0 v) (nth_ok (Apart y.table) tt vs 1 v) (nth_ok (Apart y.table) tt vs 2 v), each_none (Apart y.table))
  op_ok read_metatable vs v = (h, each_one (Apart y.table) (table_or_nil (metatable_of H (nth vs 0))) (meta_value_ok y.table (metatable_of H (nth vs 0)) (metatable_ok (nth vs 0))))
  op_ok write_metatable vs v = (put_meta_ok (nth vs 0) (nth vs 1) (nth_ok (Apart y.table) tt vs 0 v) (nth_ok (Apart y.table) tt vs 1 v), each_none (Apart y.table))
  op_ok row_after vs v = rows_ok (row_in H (nth vs 0) (nth vs 1)) (λ row e. row_ok (nth vs 0) (nth vs 1) row e)
  op_ok make_table vs v = (new_table_ok y H h, each_one (Apart y.table) (object a_table (length H.tables)) (new_apart y H h))
  op_ok _ vs v = (h, each_none (Apart y.table))

abbrev pub DoneOk : Home → Done → Type 0
DoneOk y (done K vs) = HeapOk y K × Each (Apart y.table) vs
DoneOk y (refused text) = Unit {0}
DoneOk y (raised K v) = HeapOk y K × Apart y.table v

pub looked_ok : (y : Home) (l : Look) (env : List Value) (H : Heap) → HeapOk y H → Each (Apart y.table) env → DoneOk y (looked l env H)
looked_ok y (gives xs) env H h v = (h, args_apart y.table env xs v)
looked_ok y (gives_all xs slot) env H h v = (h, each_append (Apart y.table) (args_of env xs) (drop slot env) (args_apart y.table env xs v) (each_drop (Apart y.table) slot env v))
looked_ok y (refuses text) env H h v = tt
looked_ok y (raises x) env H h v = (h, arg_apart y.table env x v)
looked_ok y (count slot c) env H h v = looked_ok y (c (length (drop slot env))) env H h v
looked_ok y (does op xs c) env H h v =
    let t = does_op op H (args_of env xs) in
    let o = op_ok y H h op (args_of env xs) (args_apart y.table env xs v) in
    looked_ok y (c t.told) (t.values ++ env) t.heap o.0 (each_append (Apart y.table) t.values env o.1 v)

-- Library functions that look at values and tables alone: one lemma an operation. A value is written at a key that is written out, and that is no nil.
use Rattle.std.proofs.Common.{ℕ, ◌≡◌, List, [], ◌∷◌, ◌++◌, Option, Some, None, refl, length, drop}
use Rattle.std.specs.Prelude.{slice_get, slice_set}
use Rattle.int_core.specs.Value.{Plain, nil, a_table, a_function, a_coroutine, Value, known, object, Shape, nth}
use Rattle.int_core.specs.Heap.{Table, Heap}
use Rattle.library_rows.specs.Look.{Arg, read, written, args_of, HeapOp, look, compare, read_field, write_field, read_metatable, write_metatable, border_of, row_after, make_table, put_field, put_metatable, put_meta, row_step, row_in, does_op, Look, gives, gives_all, refuses, raises, count, does}
use Rattle.machine_sound.proofs.Lists.{each_set}
use Rattle.tables_stay.specs.Laws.{AreTables, LookKeeps}
use Rattle.tables_stay.proofs.Heaps.{IsTable, NotNil, new_kept, raw_set_kept}

-- what is written at
abbrev KeyIs : HeapOp → List Value → Type 0
KeyIs write_field vs = NotNil (nth vs 1)
KeyIs op vs = Unit {0}

module _ (H : Heap) (h : AreTables H) where
  pub write_kept : (o key v : Value) → NotNil key → AreTables (put_field H o key v)
  write_kept (object a_table n) key v k = raw_set_kept H h n key v k
  write_kept (object a_function n) key v k = h
  write_kept (object a_coroutine n) key v k = h
  write_kept (known p) key v k = h

  put_kept : (o : Value) (m : Option ℕ) → AreTables (put_metatable H o m)
  unfolding put_metatable
  put_kept (object a_table n) m = from (slice_get H.tables n) refl
    where
      from : (o : Option Table) → slice_get H.tables n ≡ o → AreTables (elim o [ None ↦ H | Some t ↦ record H { tables = slice_set H.tables n (record t { metatable = m }) } ])
      from None e = h
      from (Some t) e = each_set IsTable H.tables n (record t { metatable = m }) h (h n t e)
  put_kept (object a_function n) m = h
  put_kept (object a_coroutine n) m = h
  put_kept (known p) m = h

  put_meta_kept : (o m : Value) → AreTables (put_meta H o m)
  put_meta_kept o (object a_table m) = put_kept o (Some m)
  put_meta_kept o (object a_function m) = put_kept o None
  put_meta_kept o (object a_coroutine m) = put_kept o None
  put_meta_kept o (known p) = put_kept o None

  row_kept : (x : Option (Option (Value × Value))) → AreTables (row_step H x).heap
  row_kept None = h
  row_kept (Some None) = h
  row_kept (Some (Some row)) = h

  pub op_kept : (op : HeapOp) (vs : List Value) → KeyIs op vs → AreTables (does_op op H vs).heap
  op_kept write_field vs k = write_kept (nth vs 0) (nth vs 1) (nth vs 2) k
  op_kept write_metatable vs k = put_meta_kept (nth vs 0) (nth vs 1)
  op_kept row_after vs k = row_kept (row_in H (nth vs 0) (nth vs 1))
  op_kept make_table vs k = new_kept H h
  op_kept _ vs k = h

-- a key that is written out

abbrev pub PlainKey : Plain → Type 0
PlainKey nil = ⊥
PlainKey p = Unit {0}

plain_key : (p : Plain) → PlainKey p → NotNil (known p)
plain_key nil k = absurd k
plain_key _ k = refl

abbrev pub KeyWritten : List Arg → Type 0
KeyWritten (o ∷ written p ∷ xs) = PlainKey p
KeyWritten xs = ⊥

-- a library function all of whose keys are
abbrev pub Writes : Look → Type 0
Writes (gives xs) = Unit {0}
Writes (gives_all xs slot) = Unit {0}
Writes (refuses text) = Unit {0}
Writes (raises x) = Unit {0}
Writes (count slot k) = (n : ℕ) → Writes (k n)
Writes (does write_field xs k) = KeyWritten xs × ((s : Shape) → Writes (k s))
Writes (does op xs k) = (s : Shape) → Writes (k s)

key_of : (env : List Value) (xs : List Arg) → KeyWritten xs → NotNil (nth (args_of env xs) 1)
key_of env [] k = absurd k
key_of env (o ∷ []) k = absurd k
key_of env (o ∷ read n ∷ xs) k = absurd k
key_of env (o ∷ written p ∷ xs) k = plain_key p k

pub writes_keep : (l : Look) → Writes l → LookKeeps l
writes_keep (gives xs) w env H h = h
writes_keep (gives_all xs slot) w env H h = h
writes_keep (refuses text) w env H h = tt
writes_keep (raises x) w env H h = h
writes_keep (count slot k) w env H h = writes_keep (k (length (drop slot env))) (w (length (drop slot env))) env H h
writes_keep (does write_field xs k) w env H h =
    let t = does_op write_field H (args_of env xs) in
    writes_keep (k t.told) (w.1 t.told) (t.values ++ env) t.heap (op_kept H h write_field (args_of env xs) (key_of env xs w.0))
writes_keep (does look xs k) w env H h = let t = does_op look H (args_of env xs) in writes_keep (k t.told) (w t.told) (t.values ++ env) t.heap (op_kept H h look (args_of env xs) tt)
writes_keep (does compare xs k) w env H h = let t = does_op compare H (args_of env xs) in writes_keep (k t.told) (w t.told) (t.values ++ env) t.heap (op_kept H h compare (args_of env xs) tt)
writes_keep (does read_field xs k) w env H h = let t = does_op read_field H (args_of env xs) in writes_keep (k t.told) (w t.told) (t.values ++ env) t.heap (op_kept H h read_field (args_of env xs) tt)
writes_keep (does read_metatable xs k) w env H h = let t = does_op read_metatable H (args_of env xs) in writes_keep (k t.told) (w t.told) (t.values ++ env) t.heap (op_kept H h read_metatable (args_of env xs) tt)
writes_keep (does write_metatable xs k) w env H h = let t = does_op write_metatable H (args_of env xs) in writes_keep (k t.told) (w t.told) (t.values ++ env) t.heap (op_kept H h write_metatable (args_of env xs) tt)
writes_keep (does border_of xs k) w env H h = let t = does_op border_of H (args_of env xs) in writes_keep (k t.told) (w t.told) (t.values ++ env) t.heap (op_kept H h border_of (args_of env xs) tt)
writes_keep (does row_after xs k) w env H h = let t = does_op row_after H (args_of env xs) in writes_keep (k t.told) (w t.told) (t.values ++ env) t.heap (op_kept H h row_after (args_of env xs) tt)
writes_keep (does make_table xs k) w env H h = let t = does_op make_table H (args_of env xs) in writes_keep (k t.told) (w t.told) (t.values ++ env) t.heap (op_kept H h make_table (args_of env xs) tt)

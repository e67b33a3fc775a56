-- A write to a table in memory is the write of the definitions.
use Rattle.std.proofs.Common.{◌≡◌, ℕ, List, [], map, Option, Some, None, refl, ap, sym, ◌∙◌}
use Rattle.std.specs.Prelude.{slice_get, slice_set, Result, Ok, Err, OnErr}
use Rattle.std.proofs.lemmas.List.{map-set, set-get_or}
use Rattle.std.proofs.lemmas.Option.{get_or_from_slice_get}
use Rattle.int_core.specs.Heap.{Table as Rows, Heap, raw_set}
use Rattle.int_core.specs.Operations.{found, set_raw}
use Rattle.int_core.specs.Rows.{set}
use Rattle.int_core.specs.Value.{Value, table_values, object, a_table}
use Rattle.object_pool.specs.Pool.{Pool, with_object}
use Rattle.table_core.specs.Table.{Contents}
use Rattle.table_core.specs.Value.{lua_values}
use Rattle.table_core.specs.declared.value.TableId.{TableId}
use Rattle.table_core.specs.declared.value.Value.{Value as Kept}
use Rattle.table_core.specs.declared.value.Value.TheVariants.{Nil, Bool as Boolean, Int, Str, Prim, Table, Func, Coro}
use Rattle.lua_heap.specs.Law.{TablesAreRead}
use Rattle.lua_heap.specs.Plain.{table}
use Rattle.lua_heap.specs.Reading.{value}
use Rattle.lua_heap.specs.Strings.{AreApart, AreShort}
use Rattle.meta_ops.specs.Heap.{heap_in}
use Rattle.meta_ops.specs.Outcome.{settled}
use Rattle.meta_ops.specs.Store.{put_by, put_in, put_outcome}
use Rattle.meta_ops.proofs.Fields.{table-is}

abbrev set_by : Heap → ℕ → Value → Value → Option Rows → Heap
set_by H n key v None = H
set_by H n key v (Some t) = record H { tables = slice_set H.tables n (record t { rows = set table_values t.rows key v }) }

set_is : (H : Heap) (n : ℕ) (key v : Value) (o : Option Rows) → slice_get H.tables n ≡ o → raw_set H n key v ≡ set_by H n key v o
unfolding raw_set
set_is H n key v None e = rw (raw_set, e) refl
set_is H n key v (Some t) e = rw (raw_set, e) refl

abbrev pub with_tables : Heap → List Rows → Heap
with_tables H tables = record H { tables = tables }

abbrev pub with_rows : Rows → List (Value × Value) → Rows
with_rows t rows = record t { rows = rows }

module _ (texts : List (List ℕ)) (law : TablesAreRead) (apart : AreApart texts) (short : AreShort texts) (tables : List Contents) (string_meta : Option TableId) (n : ℕ) (key v : Kept) where
  abbrev here : Heap
  here = heap_in texts tables string_meta

  put-by : (o : Option Contents) → slice_get tables n ≡ o → raw_set here n (value texts key) (value texts v) ≡ heap_in texts (put_by tables n key v o) string_meta
  put-by None e = set_is here n (value texts key) (value texts v) None (table-is texts tables here.string_metatable n None e)
  put-by (Some t) e =
      set_is here n (value texts key) (value texts v) (Some (table texts t)) (table-is texts tables here.string_metatable n (Some t) e)
      ∙ ap (λ rows. with_tables here (slice_set (map (table texts) tables) n (with_rows (table texts t) rows))) ((law texts apart short t.rows).written key v)
      ∙ ap (with_tables here) (sym (map-set (table texts) tables n (record t { rows = set lua_values t.rows key v })))

pub put-is : (texts : List (List ℕ)) → TablesAreRead → AreApart texts → AreShort texts → (tables : List Contents) (string_meta : Option TableId) (n : ℕ) (key v : Kept) (more : List Value)
    → set_raw (heap_in texts tables string_meta) (object a_table n) (value texts key) (value texts v) ≡ settled texts (heap_in texts (put_in tables n key v) string_meta) more (put_outcome key)
put-is texts law apart short tables meta n Nil v more = refl
put-is texts law apart short tables meta n (Boolean x) v more = ap (λ H. found H []) (put-by texts law apart short tables meta n (Boolean x) v (slice_get tables n) refl)
put-is texts law apart short tables meta n (Int x) v more = ap (λ H. found H []) (put-by texts law apart short tables meta n (Int x) v (slice_get tables n) refl)
put-is texts law apart short tables meta n (Str x) v more = ap (λ H. found H []) (put-by texts law apart short tables meta n (Str x) v (slice_get tables n) refl)
put-is texts law apart short tables meta n (Prim x) v more = ap (λ H. found H []) (put-by texts law apart short tables meta n (Prim x) v (slice_get tables n) refl)
put-is texts law apart short tables meta n (Table x) v more = ap (λ H. found H []) (put-by texts law apart short tables meta n (Table x) v (slice_get tables n) refl)
put-is texts law apart short tables meta n (Func x) v more = ap (λ H. found H []) (put-by texts law apart short tables meta n (Func x) v (slice_get tables n) refl)
put-is texts law apart short tables meta n (Coro x) v more = ap (λ H. found H []) (put-by texts law apart short tables meta n (Coro x) v (slice_get tables n) refl)

-- a write that did not take place

abbrev with_objects : Pool Contents → List Contents → Pool Contents
with_objects p objects = record p { objects = objects }

pub object-kept : (p : Pool Contents) (n : ℕ) (t u : Contents) → slice_get p.objects n ≡ Some t → u ≡ t → with_object p n u ≡ p
object-kept p n t u there same =
    ap (with_object p n) same ∙ ap (λ w. with_objects p (slice_set p.objects n w)) (sym (get_or_from_slice_get p.objects n t t there)) ∙ ap (with_objects p) (set-get_or p.objects n t)

pub on_err : {A E P : Type 0} (r : Result A E) → P → OnErr r P
on_err (Ok x) h = tt
on_err (Err e) h = h

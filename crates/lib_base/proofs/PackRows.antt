-- The row that packs its arguments into a new table.
use Rattle.std.proofs.Common.{◌≡◌, ℕ, zero, suc, List, [], ◌∷◌, ◌++◌, ◌+◌, ◌<◌, length, map, drop, Option, Some, None, refl, ap, ap₂, sym, ◌∙◌, arith}
use Rattle.std.specs.Prelude.{◌-◌, pos, codes, slice_set, option_map}
use Rattle.std.proofs.lemmas.List.{length-map}
use Rattle.list_laws.proofs.Items.{get_new}
use Rattle.int_core.specs.Heap.{Table, Heap, filled, raw_set}
use Rattle.int_core.specs.Rows.{set}
use Rattle.int_core.specs.Value.{Value, known, integer, string, object, a_table, table_values, nth}
use Rattle.library_rows.specs.Base.{packs, packs_from}
use Rattle.library_rows.specs.Look.{Look, read, gives, done, looked}
use Rattle.library_rows.specs.Searches.{writes}
use Rattle.table_core.specs.Table.{Contents}
use Rattle.table_core.specs.declared.value.TableId.{TableId}
use Rattle.machine_core.specs.World.{World}
use Rattle.lua_heap.specs.declared.world.World.{World as Memory}
use Rattle.lua_heap.specs.Changes.{AddsTable}
use Rattle.lua_heap.specs.Plain.{table}
use Rattle.lua_heap.specs.Reading.{row}
use Rattle.pure_functions.specs.Answers.{heap_of}
use Rattle.lib_base.specs.Numbering.{numbered_from, numbered_rows}

set_new : {A : Type 0} (xs : List A) (x y : A) → slice_set (xs ++ x ∷ []) (length xs) y ≡ xs ++ y ∷ []
set_new [] x y = refl
set_new (z ∷ xs) x y = ap (λ ys. z ∷ ys) (set_new xs x y)

drop_head : (vs : List Value) (i : ℕ) (v : Value) (rest : List Value) → drop i vs ≡ v ∷ rest → nth vs i ≡ v
drop_head [] zero v rest e = absurd (cc)
drop_head [] (suc i) v rest e = absurd (cc)
drop_head (w ∷ vs) zero v rest e = cc
drop_head (w ∷ vs) (suc i) v rest e = drop_head vs i v rest e

drop_tail : (vs : List Value) (i : ℕ) (v : Value) (rest : List Value) → drop i vs ≡ v ∷ rest → drop (suc i) vs ≡ rest
drop_tail [] zero v rest e = absurd (cc)
drop_tail [] (suc i) v rest e = absurd (cc)
drop_tail (w ∷ vs) zero v rest e = cc
drop_tail (w ∷ vs) (suc i) v rest e = drop_tail vs i v rest e

pub drop_next : (vs : List Value) (at : ℕ) → at < length vs → drop at vs ≡ nth vs at ∷ drop (suc at) vs
drop_next [] at h = absurd (omega (arith, h))
drop_next (v ∷ vs) zero h = refl
drop_next (v ∷ vs) (suc at) h = drop_next vs at (omega (arith, h))

module _ (H : Heap) where
  -- with one table more, which comes last
  abbrev pub with_rows : List (Value × Value) → Heap
  with_rows rows = record H { tables = H.tables ++ record { rows = rows; metatable = None } ∷ [] }

  abbrev pub last : Value
  last = object a_table (length H.tables)

  pub set_last : (rows : List (Value × Value)) (k v : Value) → raw_set (with_rows rows) (length H.tables) k v ≡ with_rows (set table_values rows k v)
  unfolding raw_set
  set_last rows k v =
      ap {A = Option Table} (λ o. elim o as (λ _. Heap) [
        | None ↦ with_rows rows
        | Some t ↦ record (with_rows rows) { tables = slice_set (with_rows rows).tables (length H.tables) (record t { rows = set table_values t.rows k v }) }
      ]) (get_new H.tables (record { rows = rows; metatable = None }))
      ∙ ap {A = List Table} (λ ts. record H { tables = ts }) (set_new H.tables (record { rows = rows; metatable = None }) (record { rows = set table_values rows k v; metatable = None }))

  module _ (vs : List Value) where
    packs_are : (rest : List Value) (i : ℕ) (rows : List (Value × Value)) (k : Look) → drop i vs ≡ rest →
        looked (packs_from (suc i) (length rest) k) (last ∷ vs) (with_rows rows) ≡ looked k (last ∷ vs) (with_rows (filled i rest rows))
    packs_are [] i rows k e = refl
    packs_are (v ∷ rest) i rows k e =
        ap (λ G. looked (packs_from (suc (suc i)) (length rest) k) (last ∷ vs) G)
        (ap (λ w. raw_set (with_rows rows) (length H.tables) (known (integer (pos (suc i)))) w) (drop_head vs i v rest e) ∙ set_last rows (known (integer (pos (suc i)))) v)
        ∙ packs_are rest (suc i) (set table_values rows (known (integer (pos (suc i)))) v) k (drop_tail vs i v rest e)

    filled_is : (rest : List Value) (i : ℕ) (rows : List (Value × Value)) → filled i rest rows ≡ numbered_from (suc i) rest rows
    filled_is [] i rows = refl
    filled_is (v ∷ rest) i rows = filled_is rest (suc i) (set table_values rows (known (integer (pos (suc i)))) v)

    pub pack_is : looked packs vs H ≡ done (with_rows (numbered_rows 1 vs)) (last ∷ [])
    pack_is =
        let many : length vs ≡ length vs + 1 - 1 = omega arith in
        packs_are vs 0 [] (writes ((string (codes "n"), integer (pos (length vs))) ∷ []) (gives (read 0 ∷ []))) refl
        ∙ ap (λ G. done G (last ∷ [])) (set_last (filled 0 vs []) (known (string (codes "n"))) (known (integer (pos (length vs)))))
        ∙ ap₂ (λ rows n. done (with_rows (set table_values rows (known (string (codes "n"))) (known (integer (pos n))))) (last ∷ [])) (filled_is vs 0 []) many

-- a table that is added is the one that comes last
pub added_rows : (W V : Memory) (t : Contents) (rows : List (Value × Value)) → AddsTable W V t → map (row W.strings) t.rows ≡ rows → t.metatable ≡ None → heap_of V ≡ with_rows (heap_of W) rows
added_rows W V t rows added r m =
    ap {A = World} (λ W. W.heap) (added.plain 0)
    ∙ ap (λ rows. record (heap_of W) { tables = (heap_of W).tables ++ record { rows = rows; metatable = option_map (λ m. m.0) t.metatable } ∷ [] }) r
    ∙ ap (λ m. record (heap_of W) { tables = (heap_of W).tables ++ record { rows = rows; metatable = option_map (λ m. m.0) m } ∷ [] }) m

pub last_is : (W : Memory) (id : TableId) → id.0 ≡ length W.tables.objects → last (heap_of W) ≡ object a_table id.0
last_is W id i = ap (λ n. object a_table n) (length-map W.tables.objects (table W.strings) ∙ sym i)

pub packed_told : (W V : Memory) (t : Contents) (id : TableId) (vs : List Value) → AddsTable W V t → id.0 ≡ length W.tables.objects → map (row W.strings) t.rows ≡ numbered_rows 1 vs → t.metatable ≡ None →
    looked packs vs (heap_of W) ≡ done (heap_of V) (object a_table id.0 ∷ [])
packed_told W V t id vs added i r m =
    pack_is (heap_of W) vs
    ∙ ap (λ v. done (with_rows (heap_of W) (numbered_rows 1 vs)) (v ∷ [])) (last_is W id i)
    ∙ ap (λ H. done H (object a_table id.0 ∷ [])) (sym (added_rows W V t (numbered_rows 1 vs) added r m))

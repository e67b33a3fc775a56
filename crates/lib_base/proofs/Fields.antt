-- Writes to kept tables, in the words of the definitions.
use Rattle.std.proofs.Common.{◌≡◌, ℕ, zero, suc, List, [], ◌∷◌, map, Option, Some, None, refl, ap, sym, ◌∙◌}
use Rattle.std.specs.Prelude.{slice_get, slice_set, option_map}
use Rattle.std.proofs.lemmas.List.{map-set}
use Rattle.std.proofs.lemmas.Option.{slice_get-map}
use Rattle.list_laws.proofs.Items.{some_same}
use Rattle.int_core.specs.Heap.{Heap, raw_set}
use Rattle.int_core.specs.Rows.{set}
use Rattle.int_core.specs.Value.{object, a_table, table_values}
use Rattle.library_rows.specs.Look.{does_op, step, no_word, put_metatable, write_field, write_metatable}
use Rattle.table_core.specs.Table.{Contents}
use Rattle.table_core.specs.Value.{lua_values}
use Rattle.table_core.specs.declared.value.TableId.{TableId}
use Rattle.table_core.specs.declared.value.Value.{Value as Kept}
use Rattle.table_core.specs.declared.value.Value.TheVariants.{Prim}
use Rattle.lua_heap.specs.Plain.{table, heap}
use Rattle.lua_heap.specs.Reading.{value, row}
use Rattle.lib_base.specs.Raw.{AreAlike, told_border, read_row, told_row}
use Rattle.lib_base.specs.Raw as raw

pub put_back : {A : Type 0} (xs : List A) (i : ℕ) (x y : A) → slice_get xs i ≡ Some x → y ≡ x → slice_set xs i y ≡ xs
put_back [] i x y e f = refl
put_back (z ∷ xs) zero x y e f = ap (λ y. y ∷ xs) (f ∙ sym (some_same z x e))
put_back (z ∷ xs) (suc i) x y e f = ap (λ ys. z ∷ ys) (put_back xs i x y e f)

module _ (texts : List (List ℕ)) (ts : List Contents) (sm : Option ℕ) where
  abbrev pub H : Heap
  H = heap texts ts sm

  found : (n : ℕ) (o : Option Contents) → slice_get ts n ≡ o → slice_get (map (table texts) ts) n ≡ option_map (table texts) o
  found n o e = slice_get-map (table texts) ts n ∙ ap (option_map (table texts)) e

  pub field_written : AreAlike texts → (id : TableId) (t u : Contents) (k v : Kept) → slice_get ts id.0 ≡ Some t → u.rows ≡ set lua_values t.rows k v → u.metatable ≡ t.metatable →
      does_op write_field H (object a_table id.0 ∷ value texts k ∷ value texts v ∷ []) ≡ step (heap texts (slice_set ts id.0 u) sm) [] no_word
  unfolding raw_set
  field_written a id t u k v e f g =
      ap (λ o. step (elim o [
        | None ↦ H
        | Some t ↦ record H { tables = slice_set H.tables id.0 (record t { rows = set table_values t.rows (value texts k) (value texts v) }) }
      ]) [] no_word) (found id.0 (Some t) e)
      ∙ ap (λ rows. step (record H { tables = slice_set H.tables id.0 (record (table texts t) { rows = rows }) }) [] no_word) ((a.read t.rows).written k v ∙ ap (map (row texts)) (sym f))
      ∙ ap (λ m. step (record H { tables = slice_set H.tables id.0 (record { rows = map (row texts) u.rows; metatable = option_map (λ m. m.0) m }) }) [] no_word) (sym g)
      ∙ ap (λ ts. step (record H { tables = ts }) [] no_word) (sym (map-set (table texts) ts id.0 u))

  pub no_field_written : (id : TableId) (k v : Kept) → slice_get ts id.0 ≡ None →
      does_op write_field H (object a_table id.0 ∷ value texts k ∷ value texts v ∷ []) ≡ step H [] no_word
  unfolding raw_set
  no_field_written id k v e =
      ap (λ o. step (elim o [
        | None ↦ H
        | Some t ↦ record H { tables = slice_set H.tables id.0 (record t { rows = set table_values t.rows (value texts k) (value texts v) }) }
      ]) [] no_word) (found id.0 None e)

  pub metatable_written : (id : TableId) (t : Contents) (m : Option TableId) → slice_get ts id.0 ≡ Some t →
      does_op write_metatable H (object a_table id.0 ∷ value texts (raw.table_or_nil m) ∷ []) ≡ step (heap texts (slice_set ts id.0 (record t { metatable = m })) sm) [] no_word
  unfolding put_metatable
  metatable_written id t None e =
      ap (λ o. step (elim o [ None ↦ H | Some t ↦ record H { tables = slice_set H.tables id.0 (record t { metatable = None }) } ]) [] no_word) (found id.0 (Some t) e)
      ∙ ap (λ ts. step (record H { tables = ts }) [] no_word) (sym (map-set (table texts) ts id.0 (record t { metatable = None })))
  metatable_written id t (Some m) e =
      ap (λ o. step (elim o [ None ↦ H | Some t ↦ record H { tables = slice_set H.tables id.0 (record t { metatable = Some m.0 }) } ]) [] no_word) (found id.0 (Some t) e)
      ∙ ap (λ ts. step (record H { tables = ts }) [] no_word) (sym (map-set (table texts) ts id.0 (record t { metatable = Some m })))

  pub no_metatable_written : (id : TableId) (m : Option TableId) → slice_get ts id.0 ≡ None →
      does_op write_metatable H (object a_table id.0 ∷ value texts (raw.table_or_nil m) ∷ []) ≡ step H [] no_word
  unfolding put_metatable
  no_metatable_written id None e = ap (λ o. step (elim o [ None ↦ H | Some t ↦ record H { tables = slice_set H.tables id.0 (record t { metatable = None }) } ]) [] no_word) (found id.0 None e)
  no_metatable_written id (Some m) e = ap (λ o. step (elim o [ None ↦ H | Some t ↦ record H { tables = slice_set H.tables id.0 (record t { metatable = Some m.0 }) } ]) [] no_word) (found id.0 None e)

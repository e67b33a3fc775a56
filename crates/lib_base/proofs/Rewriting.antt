-- Values that are put at places of a table that have rows.
use Rattle.std.proofs.Common.{◌≡◌, ℕ, zero, suc, ◌+◌, ◌<◌, List, [], ◌∷◌, ◌++◌, map, length, drop, get_or, true, false, Option, Some, None, refl, ap, sym, subst, ◌∙◌, arith}
use Rattle.std.specs.Prelude.{pos, slice_get, slice_set, option_map, unwrap_or, is_some, if◌then◌else◌}
use Rattle.std.specs.List.{list_any}
use Rattle.std.specs.Map.{lookup, set_value}
use Rattle.std.proofs.lemmas.List.{drop_more}
use Rattle.std.proofs.lemmas.Map.{keys-set_value}
use Rattle.std.proofs.lemmas.Map.Made.{is_some-lookup}
use Rattle.std.proofs.lemmas.Option.{slice_get-map}
use Rattle.list_laws.proofs.Items.{get_set_same, some_same}
use Rattle.int_core.specs.Heap.{Table}
use Rattle.int_core.specs.Rows.{IsBorder, border, has_row, is_nil, kept, set}
use Rattle.int_core.specs.Value.{known, integer, object, a_table, bind, table_values}
use Rattle.library_rows.specs.Base.{told_number}
use Rattle.library_rows.specs.Look.{Step, border_told, put_field}
use Rattle.table_core.specs.Table.{Contents}
use Rattle.table_core.specs.Value.{lua_values, value_eq}
use Rattle.table_core.specs.declared.value.TableId.{TableId}
use Rattle.table_core.specs.declared.value.Value.{Value as Kept}
use Rattle.table_core.specs.declared.value.Value.TheVariants.{Nil, Int}
use Rattle.lua_heap.specs.Plain.{heap, table}
use Rattle.lua_heap.specs.Reading.{value}
use Rattle.lib_base.specs.Raw.{AreAlike}
use Rattle.lib_base.specs.Sorting.{HasPlaces, TableHasPlaces, fields_put, items_in, rows_put}
use Rattle.lib_base.proofs.Fields.{field_written, no_field_written, put_back}

abbrev Rows : Type 0
Rows = List (Kept × Kept)

-- each integer up to a border has a row
pub border_has_places : (rows : Rows) (n : ℕ) → IsBorder lua_values rows n → HasPlaces rows n
border_has_places rows n b m h = by (lookup (value_eq (Int (pos (m + 1)))) rows) refl (b.filled m h)
  where
    key : Kept
    key = Int (pos (m + 1))

    by : (o : Option Kept) → lookup (value_eq key) rows ≡ o → is_nil lua_values (unwrap_or o Nil) ≡ false → has_row lua_values rows key ≡ true
    by None e f = absurd (cc)
    by (Some v) e f = sym (is_some-lookup (value_eq key) rows) ∙ ap is_some e

-- a write where there is a row leaves the rows where they are
places_stay : (rows : Rows) (key v other : Kept) → has_row lua_values rows key ≡ true → has_row lua_values (set lua_values rows key v) other ≡ has_row lua_values rows other
places_stay rows key v other e =
    ap (λ b. has_row lua_values (if b then set_value (value_eq key) rows v else if is_nil lua_values v then rows else kept lua_values rows ++ (key, v) ∷ []) other) e
    ∙ ap (list_any (value_eq other)) (keys-set_value (value_eq key) rows v)

pub places_after : (rows : Rows) (n at : ℕ) (v : Kept) → HasPlaces rows n → at < n → HasPlaces (set lua_values rows (Int (pos (at + 1))) v) n
places_after rows n at v h l m k = places_stay rows (Int (pos (at + 1))) v (Int (pos (m + 1))) (h at l) ∙ h m k

-- one value more, and those behind it
pub one_put : (rows : Rows) (at : ℕ) (values : List Kept) (v : Kept) → at < length values → v ≡ get_or values at v →
    rows_put (set lua_values rows (Int (pos (at + 1))) v) (at + 1 + 1) (drop (at + 1) values) ≡ rows_put rows (at + 1) (drop at values)
one_put rows at values v h e =
    let n : at + 1 + 1 ≡ suc (at + 1) = omega arith in
    ap (λ i. rows_put (set lua_values rows (Int (pos (at + 1))) v) i (drop (at + 1) values)) n
    ∙ sym (ap (rows_put rows (at + 1)) (drop_more values at v h ∙ ap (λ w. w ∷ drop (at + 1) values) (sym e)))

-- the rows of a table, as the definitions see them

set_set : {A : Type 0} (xs : List A) (i : ℕ) (x y : A) → slice_set (slice_set xs i x) i y ≡ slice_set xs i y
set_set [] i x y = refl
set_set (z ∷ xs) zero x y = refl
set_set (z ∷ xs) (suc i) x y = ap (λ ys. z ∷ ys) (set_set xs i x y)

same_contents : (u t : Contents) → u.rows ≡ t.rows → u.metatable ≡ t.metatable → u ≡ t
same_contents u t f g = ap (λ rows. record { rows = rows; metatable = u.metatable }) f ∙ ap (λ m. record { rows = t.rows; metatable = m }) g

pub fields_are_put : (texts : List (List ℕ)) (sm : Option ℕ) → AreAlike texts → (id : TableId) (u : Contents) (vs : List Kept) (i : ℕ) (ts : List Contents) (t : Contents) →
    slice_get ts id.0 ≡ Some t → u.rows ≡ rows_put t.rows i vs → u.metatable ≡ t.metatable →
    heap texts (slice_set ts id.0 u) sm ≡ fields_put (heap texts ts sm) (object a_table id.0) i (map (value texts) vs)
fields_are_put texts sm a id u [] i ts t e f g = ap (λ ts. heap texts ts sm) (put_back ts id.0 t u e (same_contents u t f g))
fields_are_put texts sm a id u (v ∷ vs) i ts t e f g =
    let t' : Contents = record t { rows = set lua_values t.rows (Int (pos i)) v } in
    let w : put_field (heap texts ts sm) (object a_table id.0) (known (integer (pos i))) (value texts v) ≡ heap texts (slice_set ts id.0 t') sm
    = ap (λ (s : Step). s.heap) (field_written texts ts sm a id t t' (Int (pos i)) v e refl refl) in
    ap (λ ts. heap texts ts sm) (sym (set_set ts id.0 t' u))
    ∙ fields_are_put texts sm a id u vs (suc i) (slice_set ts id.0 t') t' (get_set_same ts id.0 t t' e) f g
    ∙ ap (λ H. fields_put H (object a_table id.0) (suc i) (map (value texts) vs)) (sym w)

-- where no such table is there, nothing is put
pub no_fields_put : (texts : List (List ℕ)) (ts : List Contents) (sm : Option ℕ) (id : TableId) → slice_get ts id.0 ≡ None → (vs : List Kept) (i : ℕ) →
    fields_put (heap texts ts sm) (object a_table id.0) i (map (value texts) vs) ≡ heap texts ts sm
no_fields_put texts ts sm id e [] i = refl
no_fields_put texts ts sm id e (v ∷ vs) i =
    ap (λ H. fields_put H (object a_table id.0) (suc i) (map (value texts) vs)) (ap (λ (s : Step). s.heap) (no_field_written texts ts sm id (Int (pos i)) v e))
    ∙ no_fields_put texts ts sm id e vs (suc i)

-- how many items a table has, as the definitions count them
module _ (texts : List (List ℕ)) (ts : List Contents) (sm : Option ℕ) (id : TableId) where
  counts : Option Table → ℕ
  counts o = told_number (border_told (bind o (λ t. Some (border table_values t.rows))))

  counted : (o : Option Contents) → slice_get ts id.0 ≡ o → items_in (heap texts ts sm) (object a_table id.0) ≡ counts (option_map (table texts) o)
  unfolding counts
  counted o e = ap (λ o. told_number (border_told (bind o (λ (t : Table). Some (border table_values t.rows))))) (slice_get-map (table texts) ts id.0 ∙ ap (option_map (table texts)) e)

  pub counts_items : AreAlike texts → (t : Contents) → slice_get ts id.0 ≡ Some t → items_in (heap texts ts sm) (object a_table id.0) ≡ border lua_values t.rows
  unfolding counts
  counts_items a t e = counted (Some t) e ∙ (a.read t.rows).ends

  pub counts_none : slice_get ts id.0 ≡ None → items_in (heap texts ts sm) (object a_table id.0) ≡ 0
  unfolding counts
  counts_none e = counted None e

pub places_of : (ts : List Contents) (id : TableId) (t : Contents) (n : ℕ) → slice_get ts id.0 ≡ Some t → IsBorder lua_values t.rows n → TableHasPlaces ts id n
places_of ts id t n e b u f = subst (λ (u : Contents). HasPlaces u.rows n) (some_same t u (sym e ∙ f)) (border_has_places t.rows n b)

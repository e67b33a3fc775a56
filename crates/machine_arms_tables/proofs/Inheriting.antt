-- Fields that handlers of `__index` which are tables lead to, link by link.
use Rattle.std.proofs.Common.{◌≡◌, ◌<◌, ◌+◌, ◌-◌, ℕ, suc, List, [], ◌∷◌, Option, Some, None, refl, ap, sym, ◌∙◌, arith, Bool, true, false}
use Rattle.std.specs.Prelude.{cond, not, slice_get, codes, option_map, is_some, IfSome}
use Rattle.int_core.specs.Heap.{Heap, Table as Rows, raw_get}
use Rattle.int_core.specs.Operations.{Settled, found, ask, index, indexed, index_of, greatest_chain, handler_in, of_index, is_function}
use Rattle.int_core.specs.Rows.{get}
use Rattle.int_core.specs.Value.{Value, known, string, nil, object, a_table, is_nil, bind}
use Rattle.lua_heap.specs.Law.{TablesAreRead}
use Rattle.lua_heap.specs.Plain.{table, heap}
use Rattle.lua_heap.specs.Reading.{text_or, value}
use Rattle.lua_heap.specs.Strings.{AreApart, AreShort}
use Rattle.machine_sound.proofs.Lists.{get_map}
use Rattle.table_core.specs.Table.{Contents}
use Rattle.table_core.specs.Value.{lua_values}
use Rattle.table_core.specs.Value.{is_nil as is_nil_kept}
use Rattle.table_core.specs.declared.value.StrId.{StrId}
use Rattle.table_core.specs.declared.value.TableId.{TableId}
use Rattle.table_core.specs.declared.value.Value.{Value as Kept}
use Rattle.table_core.specs.declared.value.Value.TheVariants.{Str, Table}
use Rattle.machine_arms_tables.specs.Fields.{is_raw, field_in, field_at_once, table_above, table_named, table_only, Settles}
use Rattle.machine_arms_tables.proofs.Settling.{index_at, indexed_is, nil_is_nil, raw_is, raw_of}

-- a table whose metatable has a table at a name
record Above (ts : List Contents) (name : StrId) (at handler : Kept) : Type 0 where
  pub id : TableId
  pub is : at ≡ Table id
  pub own : Contents
  pub there : slice_get ts id.0 ≡ Some own
  pub meta : TableId
  pub metatable_is : own.metatable ≡ Some meta
  pub holder : Contents
  pub held : slice_get ts meta.0 ≡ Some holder
  pub above : TableId
  pub handler_is : handler ≡ Table above
  pub got : get lua_values holder.rows (Str name) ≡ Table above

module _ (ts : List Contents) (name : StrId) (id : TableId) (handler : Kept) (own : Contents) (there : slice_get ts id.0 ≡ Some own) where
  value_above : (meta : TableId) → own.metatable ≡ Some meta → (holder : Contents) → slice_get ts meta.0 ≡ Some holder → (v : Kept) → get lua_values holder.rows (Str name) ≡ v → table_only v ≡ Some handler → Above ts name (Table id) handler
  value_above meta m holder h (Table above) g e = record {
    id = id;
    is = refl;
    own = own;
    there = there;
    meta = meta;
    metatable_is = m;
    holder = holder;
    held = h;
    above = above;
    handler_is = cc;
    got = g;
  }
  value_above meta m holder h _ g e = absurd (cc)

  holder_above : (meta : TableId) → own.metatable ≡ Some meta → (o : Option Contents) → slice_get ts meta.0 ≡ o → bind o (λ t. table_only (get lua_values t.rows (Str name))) ≡ Some handler → Above ts name (Table id) handler
  holder_above meta m None h e = absurd (cc)
  holder_above meta m (Some holder) h e = value_above meta m holder h (get lua_values holder.rows (Str name)) refl e

  metatable_above : (o : Option TableId) → own.metatable ≡ o → bind o (λ meta. table_named ts meta name) ≡ Some handler → Above ts name (Table id) handler
  metatable_above None m e = absurd (cc)
  metatable_above (Some meta) m e = holder_above meta m (slice_get ts meta.0) refl e

own_above : (ts : List Contents) (name : StrId) (id : TableId) (handler : Kept) (o : Option Contents) → slice_get ts id.0 ≡ o → bind (bind o (λ t. t.metatable)) (λ meta. table_named ts meta name) ≡ Some handler → Above ts name (Table id) handler
own_above ts name id handler None there e = absurd (cc)
own_above ts name id handler (Some own) there e = metatable_above ts name id handler own there own.metatable refl e

above_there : (ts : List Contents) (name : StrId) (at handler : Kept) → table_above ts name at ≡ Some handler → Above ts name at handler
above_there ts name (Table id) handler e = own_above ts name id handler (slice_get ts id.0) refl e
above_there ts name _ handler e = absurd (cc)

-- a table with a metatable whose field is not found at once does not have it
not_false : (b : Bool) → not b ≡ false → b ≡ true
not_false true e = refl
not_false false e = absurd (cc)

cleared : (t : Contents) (key : Kept) (meta : TableId) → t.metatable ≡ Some meta → field_in t key ≡ None → is_nil_kept (get lua_values t.rows key) ≡ true
cleared t key meta m absent = by (is_raw t key) refl absent
  where
    by : (b : Bool) → is_raw t key ≡ b → cond b (Some (get lua_values t.rows key)) None ≡ None → is_nil_kept (get lua_values t.rows key) ≡ true
    by true r e = absurd (cc)
    by false r e = not_false (is_nil_kept (get lua_values t.rows key)) (ap (λ (o : Option TableId). elim o as (λ _. Bool) [ None ↦ true | Some _ ↦ not (is_nil_kept (get lua_values t.rows key)) ]) (sym m) ∙ r)

-- a value that is not there leads to the handler
led_by : (H : Heap) (o v h : Value) (raw : Option Value) (follow : Value → Settled) → raw ≡ Some v → is_nil v ≡ true → handler_in H of_index o ≡ h → is_nil h ≡ false → indexed H o raw follow ≡ follow h
led_by H o v h raw follow e none there filled =
    ap (λ raw. indexed H o raw follow) e
    ∙ ap (λ b. cond (not b) (found H (v ∷ [])) (cond (not (is_nil (handler_in H of_index o))) (follow (handler_in H of_index o)) (found H (v ∷ [])))) none
    ∙ ap (λ x. cond (not (is_nil x)) (follow x) (found H (v ∷ []))) there
    ∙ ap (λ b. cond (not b) (follow h) (found H (v ∷ []))) filled

module _ (law : TablesAreRead) (texts : List (List ℕ)) (ts : List Contents) (name : StrId) (named : slice_get texts name.0 ≡ Some (codes "__index")) (key : Kept) (meta : Option ℕ) (apart : AreApart texts) (short : AreShort texts) where
  -- the handler of a table
  handler_there : (at handler : Kept) (x : Above ts name at handler) → handler_in (heap texts ts meta) of_index (object a_table x.id.0) ≡ object a_table x.above.0
  handler_there at handler x =
      let name_is : known (string (codes "__index")) ≡ value texts (Str name) = sym (ap (λ (o : Option (List ℕ)). known (string (text_or name.0 o))) named) in
      ap (λ (o : Option ℕ). elim (bind o (λ m. raw_get (heap texts ts meta) (object a_table m) (known (string (codes "__index"))))) as (λ _. Value) [ None ↦ known nil | Some h ↦ h ]) (
      ap (λ (o : Option Rows). bind o (λ t. t.metatable)) (get_map (table texts) ts x.id.0 x.own x.there) ∙ ap (option_map (λ (m : TableId). m.0)) x.metatable_is)
      ∙ ap (λ (o : Option Value). elim o as (λ _. Value) [ None ↦ known nil | Some h ↦ h ]) (
      ap (raw_get (heap texts ts meta) (object a_table x.meta.0)) name_is
      ∙ raw_is texts meta ts x.meta.0 x.holder x.held law apart short (Str name)
      ∙ ap (λ v. Some (value texts v)) x.got)

  -- one link
  led : (at handler : Kept) → Above ts name at handler → field_at_once ts at key ≡ None → (n : ℕ)
      → index_of (suc n) (heap texts ts meta) (value texts at) (value texts key) ≡ index_of n (heap texts ts meta) (value texts handler) (value texts key)
  led at handler x absent n =
      let H = heap texts ts meta in
      let k = value texts key in
      let none : field_in x.own key ≡ None = sym (ap (λ (o : Option Contents). bind o (λ t. field_in t key)) x.there) ∙ ap (λ at. field_at_once ts at key) (sym x.is) ∙ absent in
      let one : index_of (suc n) H (object a_table x.id.0) k ≡ index_of n H (object a_table x.above.0) k =
      led_by H (object a_table x.id.0) (value texts (get lua_values x.own.rows key)) (object a_table x.above.0) (raw_get H (object a_table x.id.0) k) (λ h. cond (is_function h) (ask h (object a_table x.id.0 ∷ k ∷ [])) (index_of n H h k))
      (raw_is texts meta ts x.id.0 x.own x.there law apart short key)
      (nil_is_nil texts (get lua_values x.own.rows key) ∙ cleared x.own key x.meta x.metatable_is none)
      (handler_there at handler x) refl in
      ap (λ at. index_of (suc n) H (value texts at) k) x.is ∙ one ∙ ap (λ handler. index_of n H (value texts handler) k) (sym x.handler_is)

  -- a field that is found at once, however many links are left
  found_in : (id : TableId) (v : Kept) (o : Option Contents) → slice_get ts id.0 ≡ o → bind o (λ t. field_in t key) ≡ Some v → (n : ℕ)
      → index_of n (heap texts ts meta) (object a_table id.0) (value texts key) ≡ found (heap texts ts meta) (value texts v ∷ [])
  found_in id v None there e n = absurd (cc)
  found_in id v (Some t) there e n =
      index_at n (heap texts ts meta) (object a_table id.0) (value texts key) (found (heap texts ts meta) (value texts v ∷ [])) (λ follow.
      indexed_is texts meta ts id.0 t there law apart short key v (raw_of t key v e).1 (raw_of t key v e).0 follow)

  found_at : (at v : Kept) → field_at_once ts at key ≡ Some v → (n : ℕ) → index_of n (heap texts ts meta) (value texts at) (value texts key) ≡ found (heap texts ts meta) (value texts v ∷ [])
  found_at (Table id) v e n = found_in id v (slice_get ts id.0) refl e n
  found_at _ v e n = absurd (cc)

-- the object to which some links led does not have the field itself
pub record Looked (texts : List (List ℕ)) (ts : List Contents) (first key at : Kept) (links : ℕ) : Type 0 where
  pub absent : field_at_once ts at key ≡ None
  pub goes : (meta : Option ℕ) → AreApart texts → AreShort texts → (n : ℕ)
      → index_of (links + n) (heap texts ts meta) (value texts first) (value texts key) ≡ index_of n (heap texts ts meta) (value texts at) (value texts key)

pub looked_first : (texts : List (List ℕ)) (ts : List Contents) (first key : Kept) → field_at_once ts first key ≡ None → Looked texts ts first key first 0
looked_first texts ts first key absent = record {
  absent = absent;
  goes = λ meta apart short n. let none : 0 + n ≡ n = omega arith in ap (λ k. index_of k (heap texts ts meta) (value texts first) (value texts key)) none;
}

module _ (law : TablesAreRead) (texts : List (List ℕ)) (ts : List Contents) (name : StrId) (named : slice_get texts name.0 ≡ Some (codes "__index")) (first key at : Kept) (links : ℕ) (looked : Looked texts ts first key at links) (handler : Kept) (up : Some handler ≡ table_above ts name at) where
  is_above : Above ts name at handler
  is_above = above_there ts name at handler (sym up)

  -- the field of the handler, where it has one
  ends_at : (n : ℕ) (v : Kept) → links < n → field_at_once ts handler key ≡ Some v → (meta : Option ℕ) → AreApart texts → AreShort texts
      → index_of n (heap texts ts meta) (value texts first) (value texts key) ≡ found (heap texts ts meta) (value texts v ∷ [])
  ends_at n v within e meta apart short =
      let left : n ≡ links + suc (n - suc links) = omega (arith, within) in
      ap (λ k. index_of k (heap texts ts meta) (value texts first) (value texts key)) left
      ∙ looked.goes meta apart short (suc (n - suc links))
      ∙ led law texts ts name named key meta apart short at handler is_above looked.absent (n - suc links)
      ∙ found_at law texts ts name named key meta apart short handler v e (n - suc links)

  pub settles_above : (o : Option Kept) → o ≡ field_at_once ts handler key → links < greatest_chain → IfSome o (λ v. Settles texts index (first ∷ key ∷ []) ts ts (v ∷ []))
  settles_above None e within = tt
  settles_above (Some v) e within = record { settled = λ meta apart short. ends_at greatest_chain v within (sym e) meta apart short }

  -- else the next link
  pub looked_above : (o : Option Kept) (there : Bool) → o ≡ field_at_once ts handler key → there ≡ is_some o → there ≡ false → Looked texts ts first key handler (links + 1)
  looked_above None there e is none = record {
    absent = sym e;
    goes = λ meta apart short n.
        let more : links + 1 + n ≡ links + suc n = omega arith in
        ap (λ k. index_of k (heap texts ts meta) (value texts first) (value texts key)) more
        ∙ looked.goes meta apart short (suc n)
        ∙ led law texts ts name named key meta apart short at handler is_above looked.absent n;
  }
  looked_above (Some v) there e is none = absurd (cc)

-- Operations on tables as they are kept, settled without a handler.
use Rattle.std.proofs.Common.{◌≡◌, ℕ, zero, suc, List, [], ◌∷◌, length, map, Option, Some, None, refl, ap, sym, ◌∙◌, subst, Bool, true, false}
use Rattle.std.specs.Prelude.{ℤ, pos, cond, not, slice_get, slice_set, codes, option_map}
use Rattle.std.specs.Prelude.{IfSome, IfNone, IsTrue}
use Rattle.std.proofs.lemmas.List.{map-set, set-get_or}
use Rattle.std.proofs.lemmas.Option.{get_or_from_slice_get}
use Rattle.int_core.specs.Heap.{Heap, Table as Rows, raw_get, raw_set}
use Rattle.int_core.specs.Operations.{Event, Settled, found, ask, fault, cannot_arise, asked, index, store, length', indexed, index_of, greatest_chain, handler_in, of_index, of_newindex, of_len, raw_length, event_name, is_function, stored, store_of, set_raw}
use Rattle.int_core.specs.Rows.{get, set, border}
use Rattle.int_core.specs.Value.{Value, known, string, integer, nil, object, a_table, is_nil, table_values, bind}
use Rattle.lua_heap.specs.Law.{TablesAreRead}
use Rattle.lua_heap.specs.Plain.{table, heap}
use Rattle.lua_heap.specs.Reading.{text_or, value}
use Rattle.lua_heap.specs.Strings.{AreApart, AreShort}
use Rattle.machine_sound.proofs.Lists.{get_map}
use Rattle.object_pool.specs.Pool.{Pool, with_object}
use Rattle.table_core.specs.Table.{Contents}
use Rattle.table_core.specs.Value.{lua_values}
use Rattle.table_core.specs.Value.{is_nil as is_nil_kept}
use Rattle.table_core.specs.declared.value.StrId.{StrId}
use Rattle.table_core.specs.declared.value.TableId.{TableId}
use Rattle.table_core.specs.declared.value.Value.{Value as Kept}
use Rattle.table_core.specs.declared.value.Value.TheVariants.{Nil, Int, Str, Table}
use Rattle.machine_arms_tables.specs.Fields.{is_raw, field_in, takes, with_field, LacksHandler, Settles}

-- a chain of handlers that is settled by its first link, whatever would follow
pub index_at : (links : ℕ) (H : Heap) (o key : Value) (answer : Settled) → ((follow : Value → Settled) → indexed H o (raw_get H o key) follow ≡ answer) → index_of links H o key ≡ answer
index_at zero H o key answer comes = comes (λ h. fault (codes "'__index' chain too long; possibly a loop"))
index_at (suc links) H o key answer comes = comes (λ h. cond (is_function h) (ask h (o ∷ key ∷ [])) (index_of links H h key))

pub nil_is_nil : (texts : List (List ℕ)) (v : Kept) → is_nil (value texts v) ≡ is_nil_kept v
nil_is_nil texts Nil = refl
nil_is_nil texts _ = refl

true_is : {b : Bool} → IsTrue b → b ≡ true
true_is {b = true} h = refl
true_is {b = false} h = absurd (cc)

cond_either : {A : Type 0} (b : Bool) (x : A) → cond b x x ≡ x
cond_either true x = refl
cond_either false x = refl

not_true : (b : Bool) → not b ≡ true → b ≡ false
not_true true e = absurd (cc)
not_true false e = refl

-- a field that is found at once is that of the table's rows
pub raw_of : (t : Contents) (key v : Kept) → field_in t key ≡ Some v → (is_raw t key ≡ true) × (get lua_values t.rows key ≡ v)
raw_of t key v e = by (is_raw t key) e
  where
    by : (b : Bool) → cond b (Some (get lua_values t.rows key)) None ≡ Some v → (b ≡ true) × (get lua_values t.rows key ≡ v)
    by true e = (refl, cc)
    by false e = absurd (cc)

taken_so : (nil raw : Bool) → cond nil (not true) raw ≡ true → (nil ≡ false) × (raw ≡ true)
taken_so true raw e = absurd (cc)
taken_so false raw e = (refl, e)

abbrev with_objects : {A : Type 0} → Pool A → List A → Pool A
with_objects p objects = record p { objects = objects }

abbrev with_tables : Heap → List Rows → Heap
with_tables H tables = record H { tables = tables }

abbrev with_rows : Rows → List (Value × Value) → Rows
with_rows t rows = record t { rows = rows }

-- a value that is there is found
found_by : (H : Heap) (o v : Value) (raw : Option Value) (follow : Value → Settled) → raw ≡ Some v → is_nil v ≡ false → indexed H o raw follow ≡ found H (v ∷ [])
found_by H o v raw follow e filled =
    ap (λ raw. indexed H o raw follow) e
    ∙ ap (λ b. cond (not b) (found H (v ∷ [])) (cond (not (is_nil (handler_in H of_index o))) (follow (handler_in H of_index o)) (found H (v ∷ [])))) filled

-- and a value that is not is found as it is, where there is no handler
bare_by : (H : Heap) (o v : Value) (raw : Option Value) (follow : Value → Settled) → raw ≡ Some v → is_nil (handler_in H of_index o) ≡ true → indexed H o raw follow ≡ found H (v ∷ [])
bare_by H o v raw follow e none =
    ap (λ raw. indexed H o raw follow) e
    ∙ ap (λ b. cond (not (is_nil v)) (found H (v ∷ [])) (cond (not b) (follow (handler_in H of_index o)) (found H (v ∷ [])))) none
    ∙ cond_either (not (is_nil v)) (found H (v ∷ []))

module _ (texts : List (List ℕ)) (meta : Option ℕ) (tables : List Contents) (n : ℕ) (t : Contents) (there : slice_get tables n ≡ Some t) where
  table_there : slice_get (heap texts tables meta).tables n ≡ Some (table texts t)
  table_there = get_map (table texts) tables n t there

  -- a table without a metatable has no handler
  pub no_handler : (event : Event) → t.metatable ≡ None → is_nil (handler_in (heap texts tables meta) event (object a_table n)) ≡ true
  no_handler event bare =
      ap (λ (o : Option ℕ). is_nil (elim (bind o (λ m. raw_get (heap texts tables meta) (object a_table m) (known (string (event_name event))))) [ None ↦ known nil | Some h ↦ h ])) (
      ap (λ (o : Option Rows). bind o (λ t. t.metatable)) table_there ∙ ap (option_map (λ (m : TableId). m.0)) bare)

  module _ (law : TablesAreRead) (apart : AreApart texts) (short : AreShort texts) (key : Kept) where
    pub raw_is : raw_get (heap texts tables meta) (object a_table n) (value texts key) ≡ Some (value texts (get lua_values t.rows key))
    raw_is = ap (λ (o : Option Rows). bind o (λ t. Some (get table_values t.rows (value texts key)))) table_there ∙ ap (λ v. Some v) ((law texts apart short t.rows).field key)

    pub indexed_is : (v : Kept) → get lua_values t.rows key ≡ v → is_raw t key ≡ true → (follow : Value → Settled)
        → indexed (heap texts tables meta) (object a_table n) (raw_get (heap texts tables meta) (object a_table n) (value texts key)) follow ≡ found (heap texts tables meta) (value texts v ∷ [])
    indexed_is v e raw follow = by t.metatable refl raw
      where
        by : (m : Option TableId) → t.metatable ≡ m → elim m [ None ↦ true | Some _ ↦ not (is_nil_kept (get lua_values t.rows key)) ] ≡ true
            → indexed (heap texts tables meta) (object a_table n) (raw_get (heap texts tables meta) (object a_table n) (value texts key)) follow ≡ found (heap texts tables meta) (value texts v ∷ [])
        by None m r = bare_by (heap texts tables meta) (object a_table n) (value texts v) _ follow (raw_is ∙ ap (λ v. Some (value texts v)) e) (no_handler of_index m)
        by (Some x) m r =
            found_by (heap texts tables meta) (object a_table n) (value texts v) _ follow (raw_is ∙ ap (λ v. Some (value texts v)) e)
            (ap (λ v. is_nil (value texts v)) (sym e) ∙ nil_is_nil texts (get lua_values t.rows key) ∙ not_true (is_nil_kept (get lua_values t.rows key)) r)

    pub index_is : (v : Kept) → field_in t key ≡ Some v → index_of greatest_chain (heap texts tables meta) (object a_table n) (value texts key) ≡ found (heap texts tables meta) (value texts v ∷ [])
    index_is v e =
        index_at greatest_chain (heap texts tables meta) (object a_table n) (value texts key) (found (heap texts tables meta) (value texts v ∷ [])) (λ follow.
        indexed_is v (raw_of t key v e).1 (raw_of t key v e).0 follow)

pub field_settles : TablesAreRead → (tables : List Contents) (id : TableId) (t : Contents) (key v : Kept) → slice_get tables id.0 ≡ Some t → field_in t key ≡ Some v
    → (texts : List (List ℕ)) → Settles texts index (Table id ∷ key ∷ []) tables tables (v ∷ [])
field_settles law tables id t key v there e texts = record { settled = λ meta apart short. index_is texts meta tables id.0 t there law apart short key v e }

-- writes

store_at : (links : ℕ) (H : Heap) (o key v : Value) (answer : Settled) → ((follow : Value → Settled) → stored H o key v (raw_get H o key) follow ≡ answer) → store_of links H o key v ≡ answer
store_at zero H o key v answer comes = comes (λ h. fault (codes "'__newindex' chain too long; possibly a loop"))
store_at (suc links) H o key v answer comes = comes (λ h. cond (is_function h) (ask h (o ∷ key ∷ v ∷ [])) (store_of links H h key v))

-- a key that has a value takes another one
present_by : (H : Heap) (o key v w : Value) (raw : Option Value) (follow : Value → Settled) → raw ≡ Some w → is_nil w ≡ false → stored H o key v raw follow ≡ set_raw H o key v
present_by H o key v w raw follow e filled =
    ap (λ raw. stored H o key v raw follow) e
    ∙ ap (λ b. cond (not b) (set_raw H o key v) (cond (not (is_nil (handler_in H of_newindex o))) (follow (handler_in H of_newindex o)) (set_raw H o key v))) filled

-- and so does any key, where there is no handler
taken_by : (H : Heap) (o key v w : Value) (raw : Option Value) (follow : Value → Settled) → raw ≡ Some w → is_nil (handler_in H of_newindex o) ≡ true → stored H o key v raw follow ≡ set_raw H o key v
taken_by H o key v w raw follow e none =
    ap (λ raw. stored H o key v raw follow) e
    ∙ ap (λ b. cond (not (is_nil w)) (set_raw H o key v) (cond (not b) (follow (handler_in H of_newindex o)) (set_raw H o key v))) none
    ∙ cond_either (not (is_nil w)) (set_raw H o key v)

set_is : (H : Heap) (n : ℕ) (key v : Value) (t : Rows) → slice_get H.tables n ≡ Some t → raw_set H n key v ≡ with_tables H (slice_set H.tables n (with_rows t (set table_values t.rows key v)))
unfolding raw_set
set_is H n key v t e = rw (raw_set, e) refl

-- a key that is not nil
set_named : (H : Heap) (n : ℕ) (texts : List (List ℕ)) (key : Kept) (v : Value) → is_nil_kept key ≡ false → set_raw H (object a_table n) (value texts key) v ≡ found (raw_set H n (value texts key) v) []
set_named H n texts Nil v e = absurd (cc)
set_named H n texts _ v e = refl

module _ (texts : List (List ℕ)) (meta : Option ℕ) (tables : List Contents) (n : ℕ) (t : Contents) (there : slice_get tables n ≡ Some t) (law : TablesAreRead) (apart : AreApart texts) (short : AreShort texts) (key v : Kept) where
  written_is : raw_set (heap texts tables meta) n (value texts key) (value texts v) ≡ heap texts (slice_set tables n (with_field t key v)) meta
  written_is =
      set_is (heap texts tables meta) n (value texts key) (value texts v) (table texts t) (get_map (table texts) tables n t there)
      ∙ ap (λ rows. with_tables (heap texts tables meta) (slice_set (map (table texts) tables) n (with_rows (table texts t) rows))) ((law texts apart short t.rows).written key v)
      ∙ ap (with_tables (heap texts tables meta)) (sym (map-set (table texts) tables n (with_field t key v)))

  pub store_is : is_nil_kept key ≡ false → is_raw t key ≡ true → store_of greatest_chain (heap texts tables meta) (object a_table n) (value texts key) (value texts v) ≡ found (heap texts (slice_set tables n (with_field t key v)) meta) []
  store_is named raw =
      store_at greatest_chain (heap texts tables meta) (object a_table n) (value texts key) (value texts v) _ (λ follow. by follow t.metatable refl raw)
      ∙ set_named (heap texts tables meta) n texts key (value texts v) named
      ∙ ap (λ H. found H []) written_is
    where
      by : (follow : Value → Settled) (m : Option TableId) → t.metatable ≡ m → elim m [ None ↦ true | Some _ ↦ not (is_nil_kept (get lua_values t.rows key)) ] ≡ true
          → stored (heap texts tables meta) (object a_table n) (value texts key) (value texts v) (raw_get (heap texts tables meta) (object a_table n) (value texts key)) follow ≡ set_raw (heap texts tables meta) (object a_table n) (value texts key) (value texts v)
      by follow None m r = taken_by (heap texts tables meta) (object a_table n) (value texts key) (value texts v) (value texts (get lua_values t.rows key)) _ follow (raw_is texts meta tables n t there law apart short key) (no_handler texts meta tables n t there of_newindex m)
      by follow (Some x) m r =
          present_by (heap texts tables meta) (object a_table n) (value texts key) (value texts v) (value texts (get lua_values t.rows key)) _ follow (raw_is texts meta tables n t there law apart short key)
          (nil_is_nil texts (get lua_values t.rows key) ∙ not_true (is_nil_kept (get lua_values t.rows key)) r)

  -- where there is no handler
  pub store_unhandled : is_nil_kept key ≡ false → is_nil (handler_in (heap texts tables meta) of_newindex (object a_table n)) ≡ true
      → store_of greatest_chain (heap texts tables meta) (object a_table n) (value texts key) (value texts v) ≡ found (heap texts (slice_set tables n (with_field t key v)) meta) []
  store_unhandled named none =
      store_at greatest_chain (heap texts tables meta) (object a_table n) (value texts key) (value texts v) _ (λ follow.
      taken_by (heap texts tables meta) (object a_table n) (value texts key) (value texts v) (value texts (get lua_values t.rows key)) _ follow (raw_is texts meta tables n t there law apart short key) none)
      ∙ set_named (heap texts tables meta) n texts key (value texts v) named
      ∙ ap (λ H. found H []) written_is

pub store_settles : TablesAreRead → (tables : List Contents) (id : TableId) (t : Contents) (key v : Kept) → slice_get tables id.0 ≡ Some t → takes t key ≡ true
    → (texts : List (List ℕ)) → Settles texts store (Table id ∷ key ∷ v ∷ []) tables (slice_set tables id.0 (with_field t key v)) []
store_settles law tables id t key v there e texts =
    let x = taken_so (is_nil_kept key) (is_raw t key) e in
    record { settled = λ meta apart short. store_is texts meta tables id.0 t there law apart short key v x.0 x.1 }

-- lengths

pub text_settles : (texts : List (List ℕ)) (tables : List Contents) (id : StrId) (text : List ℕ) → slice_get texts id.0 ≡ Some text → Settles texts length' (Str id ∷ []) tables tables (Int (pos (length text)) ∷ [])
text_settles texts tables id text e = record { settled = λ meta apart short. ap (λ (o : Option (List ℕ)). found (heap texts tables meta) (known (integer (pos (length (text_or id.0 o)))) ∷ [])) e }

pub border_settles : TablesAreRead → (texts : List (List ℕ)) (tables : List Contents) (id : TableId) (t : Contents) → slice_get tables id.0 ≡ Some t → t.metatable ≡ None
    → Settles texts length' (Table id ∷ []) tables tables (Int (pos (border lua_values t.rows)) ∷ [])
border_settles law texts tables id t there bare = record {
  settled = λ meta apart short.
      let H = heap texts tables meta in
      let none = no_handler texts meta tables id.0 t there of_len bare in
      ap (λ b. asked (cond (not b) (Some (handler_in H of_len (object a_table id.0))) (cond (not b) (Some (handler_in H of_len (object a_table id.0))) None)) (object a_table id.0 ∷ object a_table id.0 ∷ []) (raw_length H (object a_table id.0))) none
      ∙ ap (λ (o : Option Rows). elim o as (λ _. Settled) [ None ↦ cannot_arise | Some t ↦ found H (known (integer (pos (border table_values t.rows))) ∷ []) ]) (get_map (table texts) tables id.0 t there)
      ∙ ap (λ n. found H (known (integer (pos n)) ∷ [])) ((law texts apart short t.rows).ends);
}

pub border_settled : TablesAreRead → (texts : List (List ℕ)) (tables : List Contents) (id : TableId) (t : Contents) (v : Kept) (o : Option ℤ) → v ≡ Table id → slice_get tables id.0 ≡ Some t
    → IfSome o (λ n. n ≡ pos (border lua_values t.rows)) → IfSome o (λ _. t.metatable ≡ None) → IfSome o (λ n. Settles texts length' (v ∷ []) tables tables (Int n ∷ []))
border_settled law texts tables id t v None is there n bare = tt
border_settled law texts tables id t v (Some m) is there n bare =
    subst (λ m. Settles texts length' (v ∷ []) tables tables (Int m ∷ [])) (sym n)
    (subst (λ v. Settles texts length' (v ∷ []) tables tables (Int (pos (border lua_values t.rows)) ∷ [])) (sym is) (border_settles law texts tables id t there bare))

-- what a call on the table that is lent did is done to the tables

pub put_settles : {U : Type 0} → TablesAreRead → (tables : List Contents) (id : TableId) (t u : Contents) (holder key v : Kept) (o : Option U) → holder ≡ Table id → slice_get tables id.0 ≡ Some t
    → IfSome o (λ _. IsTrue (takes t key)) → IfSome o (λ _. u ≡ with_field t key v)
    → IfSome o (λ _. (texts : List (List ℕ)) → Settles texts store (holder ∷ key ∷ v ∷ []) tables (slice_set tables id.0 u) [])
put_settles law tables id t u holder key v None is there taken put = tt
put_settles law tables id t u holder key v (Some x) is there taken put = λ texts.
    subst (λ u. Settles texts store (holder ∷ key ∷ v ∷ []) tables (slice_set tables id.0 u) []) (sym put)
    (subst (λ o. Settles texts store (o ∷ key ∷ v ∷ []) tables (slice_set tables id.0 (with_field t key v)) []) (sym is) (store_settles law tables id t key v there (true_is taken) texts))

-- so where the table's metatable has no handler

pub any_metatable : (texts : List (List ℕ)) (tables : List Contents) (m n : Option ℕ) (event : Event) (id : ℕ) → handler_in (heap texts tables m) event (object a_table id) ≡ handler_in (heap texts tables n) event (object a_table id)
any_metatable texts tables m n event id = refl

pub unhandled_settles : {U : Type 0} → TablesAreRead → (texts : List (List ℕ)) (tables : List Contents) (id : TableId) (t u : Contents) (holder key v : Kept) (o : Option U) → holder ≡ Table id → slice_get tables id.0 ≡ Some t
    → LacksHandler texts tables id.0 → IfSome o (λ _. is_nil_kept key ≡ false) → IfSome o (λ _. u ≡ with_field t key v)
    → IfSome o (λ _. Settles texts store (holder ∷ key ∷ v ∷ []) tables (slice_set tables id.0 u) [])
unhandled_settles law texts tables id t u holder key v None is there lacks named put = tt
unhandled_settles law texts tables id t u holder key v (Some x) is there lacks named put =
    subst (λ u. Settles texts store (holder ∷ key ∷ v ∷ []) tables (slice_set tables id.0 u) []) (sym put)
    (subst (λ o. Settles texts store (o ∷ key ∷ v ∷ []) tables (slice_set tables id.0 (with_field t key v)) []) (sym is)
    (record { settled = λ meta apart short. store_unhandled texts meta tables id.0 t there law apart short key v named (lacks meta) }))

pub object_kept : {A U : Type 0} (p : Pool A) (n : ℕ) (t u : A) (o : Option U) → slice_get p.objects n ≡ Some t → IfNone o (u ≡ t) → IfNone o (with_object p n u ≡ p)
object_kept p n t u (Some x) there same = tt
object_kept p n t u None there same =
    ap (with_object p n) same ∙ ap (λ w. with_objects p (slice_set p.objects n w)) (sym (get_or_from_slice_get p.objects n t t there)) ∙ ap (with_objects p) (set-get_or p.objects n t)

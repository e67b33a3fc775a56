-- What is loaded from the image of a world agrees with it.
use Rattle.std.proofs.Common.{arith, ℕ, ◌+◌, ◌<◌, ◌≡◌, ◌⊎◌, inl, inr, ⊎_elim, List, [], ◌∷◌, ◌++◌, Option, Some, None, refl, subst, sym, ap, ◌∙◌, length, Bool, true, false, cond, map}
use Rattle.std.specs.Prelude.{slice_get, flat_map, is_some, option_map, unwrap_or}
use Rattle.std.proofs.lemmas.Option.{slice_get-map, slice_get_within}
use Rattle.int_core.specs.Value.{Kind, a_table, a_function, a_coroutine, Value, known, object, nil, bind}
use Rattle.int_core.specs.Heap.{Table}
use Rattle.machine_core.specs.World.{Function, Cell, closed, open_at, Wait, running, for_call, for_iterator, for_value, for_truth, dropped, for_concat, for_close, returning, leaving, Frame, lua, pcall, xpcall, handler, closing, Coroutine, fresh, suspended, in_progress, normal, dead, failed, World, register_at, frames_of, lua_frame, OneEach}
use Rattle.machine_alike.specs.Agree.{Pairs, SameNumber, SameCellNumber, Each, Both, SameValue, same_known, same_object, SameValues, SameRow, SameTable, SameFunction, SameWait, same_running, same_for_call, same_for_iterator, same_for_value, same_for_truth, same_dropped, same_for_concat, same_for_close, same_returning, same_leaving, SameFrame, same_lua, same_pcall, same_xpcall, same_handler, same_closing, SameFrames, SameCoroutine, same_fresh, same_suspended, same_dead, same_failed, OneToOne, IsFirst, IsSecond, Loose, kept_closed, kept_apart, SameCell, same_place, same_content, Extends}
use Rattle.machine_alike.proofs.Pairwise.{both_from, both_on, both_old, both_right, both_split, get_push_old, bind_some}
use Rattle.machine_alike.proofs.Same.{value_on, table_on, function_on, coroutine_on}
use Rattle.image_core.specs.Visit.{place, IsMet, greatest_count}
use Rattle.image_core.specs.Image.{Item, Record, closed_record, open_record, no_record}
use Rattle.image_core.specs.Records.{Part, an_object, a_cell, same_part, Field, of_value, of_cell, of_coroutine, row_fields, metatable_value, table_fields, wait_fields, error_fields, frame_fields, coroutine_fields, present, cell_fields, if_there, fields, value_parts, unless_named, field_parts, parts, visited, is_reached, parts_in_order, Naming, unnamed_item, or_item, item, wait_item, lua_frame_item, frame_item, row_item, record_of_table, record_of_function, record_of_coroutine, record_of_cell, or_none, record_of, naming, image_by}
use Rattle.image_core.specs.Loading.{kind_in, is_kind, is_of, is_cell, rank, Target, count_in, new_number, new_cell, numbered_value, value_made, table_number, function_number, row_made, table_made, function_made, wait_made, lua_frame_made, frame_made, coroutine_made, cell_made, chosen, loaded, or_number, loading}
use Rattle.image_load.specs.Loads.{CanLoad, LoadedAlike, LoadedAgrees}
use Rattle.image_core.proofs.Visits.{order_closed, order_roots}
use Rattle.image_core.proofs.Making.{after_old, table_told, function_told, coroutine_told, cell_told, open_made}
use Rattle.image_core.proofs.Parts.{part_tells, kind_self, part_self}
use Rattle.image_core.proofs.Lists.{Every, every_at, every_get, every_front, every_flat, every_in_flat, every_map, zip_made, get_split, map_some, none_some, chosen_get, chosen_from, rank_one, place_met, place_get, placed_met, get_met, order_within, order_once}

or_cases : (o n : Option ℕ) (j : ℕ) → or_number o n ≡ Some j → (o ≡ Some j) ⊎ ((o ≡ None) × (n ≡ Some j))
or_cases None n j h = inr (refl, h)
or_cases (Some m) n j h = inl h

module _ (base : Pairs) (W V : World) (T : Target) (name : Value → Option Item) (roots : List Value) (can : CanLoad base W V T name roots) where
  abbrev os : List Part
  os = parts_in_order W name roots

  abbrev N : Naming
  N = naming W name roots

  abbrev records : List Record
  records = (image_by W name roots).records

  abbrev q : Pairs
  q = loading base T os records

  abbrev root_parts : List Part
  root_parts = flat_map (λ v. field_parts name (of_value v)) roots

  abbrev Met : Part → Type 0
  Met = IsMet same_part os

  -- a field whose parts are all in order
  abbrev Had : Field → Type 0
  Had f = Every Met (field_parts name f)

  more : Extends base q
  more = record { objects = λ kind i j h. rw h refl; cells = λ i j h. rw h refl }

  -- the record of what is met
  found : (o : Part) → Met o → (n : ℕ) × (place same_part os o ≡ Some n) × (slice_get records n ≡ Some (record_of N W o))
  found o m =
      let r = place_met same_part part_tells os o m in
      (r.0, r.1, slice_get-map (record_of N W) os r.0 ∙ ap (option_map (record_of N W)) (place_get same_part part_tells os o r.0 r.1))

  closed_order : (o : Part) → Met o → Every Had (fields W (is_reached W name roots) o)
  closed_order o m =
      let r = place_met same_part part_tells os o m in
      every_flat Met (field_parts name) (fields W (is_reached W name roots) o)
      (every_at Met (parts W name (is_reached W name roots) o) (λ j x e. order_closed same_part part_self (parts W name (is_reached W name roots)) greatest_count root_parts can.few_written r.0 o x j (place_get same_part part_tells os o r.0 r.1) e))

  -- numbers
  object_number : (kind : Kind) (i : ℕ) → Met (an_object kind i) → SameValue q (object kind i) (numbered_value T records (N.number (an_object kind i)) (bind (slice_get records (N.number (an_object kind i))) kind_in))
  object_number kind i m =
      let r = found (an_object kind i) m in
      let n : N.number (an_object kind i) ≡ r.0 = ap (λ x. unwrap_or x 0) r.1 in
      let k : bind (slice_get records r.0) kind_in ≡ Some kind = ap (λ x. bind x kind_in) r.2 ∙ can.written (an_object kind i) m in
      rw (n, k) (same_object kind i (new_number T records kind r.0) (rw (can.new_objects kind i m, r.1) refl))

  cell_number : (i : ℕ) → Met (a_cell i) → SameCellNumber q i (new_cell T records (N.number (a_cell i)))
  cell_number i m =
      let r = found (a_cell i) m in
      let n : N.number (a_cell i) ≡ r.0 = ap (λ x. unwrap_or x 0) r.1 in
      rw (n, can.new_cells i m, r.1) refl

  value_copied : (v : Value) → Had (of_value v) → SameValue q v (value_made T records (item N v))
  value_copied v h = go (name v) refl h
    where
      go : (o : Option Item) → name v ≡ o → Every Met (unless_named o (value_parts v)) → SameValue q v (value_made T records (or_item o (unnamed_item N v)))
      go (Some i) e h = value_on base q more v _ (can.names v i e records)
      go None e h = plainly v h
        where
          plainly : (v : Value) → Every Met (value_parts v) → SameValue q v (value_made T records (unnamed_item N v))
          plainly (known p) h = same_known p
          plainly (object kind i) h = object_number kind i h.0

  values_copied : (vs : List Value) → Every Had (map of_value vs) → SameValues q vs (map (value_made T records) (map (item N) vs))
  values_copied vs h = zip_made (λ v. Had (of_value v)) (SameValue q) (item N) (value_made T records) value_copied vs (every_map Had of_value vs h)

  numbered_table : (m : ℕ) (v : Value) → SameValue q (object a_table m) v → Each (SameNumber q a_table) (Some m) (table_number v)
  numbered_table m v (same_object _ _ j h) = h

  numbered_function : (m : ℕ) (v : Value) → SameValue q (object a_function m) v → SameNumber q a_function m (function_number v)
  numbered_function m v (same_object _ _ j h) = h

  nil_table : (v : Value) → SameValue q (known nil) v → Each (SameNumber q a_table) None (table_number v)
  nil_table v (same_known _) = tt

  metatable_copied : (m : Option ℕ) → Had (of_value (metatable_value m)) → Each (SameNumber q a_table) m (table_number (value_made T records (item N (metatable_value m))))
  metatable_copied None h = nil_table _ (value_copied (known nil) h)
  metatable_copied (Some m) h = numbered_table m _ (value_copied (object a_table m) h)

  abbrev table_copy : Table → Table
  table_copy t = record { rows = map (row_made T records) (map (row_item N) t.rows); metatable = table_number (value_made T records (item N (metatable_value t.metatable))) }

  table_copied : (t : Table) → Every Had (table_fields t) → SameTable q t (table_copy t)
  table_copied t h =
      let r = every_front Had (flat_map row_fields t.rows) (of_value (metatable_value t.metatable) ∷ []) h in
      record {
        rows = zip_made (λ x. Every Had (row_fields x)) (SameRow q) (row_item N) (row_made T records) (λ x k. (value_copied x.0 k.0, value_copied x.1 k.1.0)) t.rows (every_flat Had row_fields t.rows r.0);
        metatable = metatable_copied t.metatable r.1.0;
      }

  abbrev function_copy : Function → Function
  function_copy f = record { code = f.code; cells = map (new_cell T records) (map (λ c. N.number (a_cell c)) f.cells) }

  function_copied : (f : Function) → Every Had (map of_cell f.cells) → SameFunction q f (function_copy f)
  function_copied f h = record { code = refl; cells = zip_made (λ c. Had (of_cell c)) (SameCellNumber q) (λ c. N.number (a_cell c)) (new_cell T records) (λ c k. cell_number c k.0) f.cells (every_map Had of_cell f.cells h) }

  wait_copied : (w : Wait Value) → Every Had (wait_fields w) → SameWait q w (wait_made T records (wait_item N w))
  wait_copied running h = same_running
  wait_copied for_call h = same_for_call
  wait_copied for_iterator h = same_for_iterator
  wait_copied for_value h = same_for_value
  wait_copied for_truth h = same_for_truth
  wait_copied dropped h = same_dropped
  wait_copied (for_concat left) h = same_for_concat left
  wait_copied for_close h = same_for_close
  wait_copied (returning count) h = same_returning count
  wait_copied (leaving e) h = same_leaving e _ (value_copied e h.0)

  error_copied : (e : Option Value) → Every Had (error_fields e) → Each (SameValue q) e (option_map (value_made T records) (option_map (item N) e))
  error_copied None h = tt
  error_copied (Some e) h = value_copied e h.0

  frame_copied : (f : Frame) → Every Had (frame_fields f) → SameFrame q f (frame_made T records (frame_item N f))
  frame_copied (lua f) h =
      let a = every_front Had (map of_value f.own.varargs) (map of_value f.own.registers ++ wait_fields f.wait) h.1 in
      let b = every_front Had (map of_value f.own.registers) (wait_fields f.wait) a.1 in
      same_lua f (lua_frame_made T records (lua_frame_item N f)) (record {
        function = numbered_function f.function _ (value_copied (object a_function f.function) h.0);
        wait = wait_copied f.wait b.1;
        own = record { pc = refl; registers = values_copied f.own.registers b.0; varargs = values_copied f.own.varargs a.0; pending = refl; opened = refl };
      })
  frame_copied pcall h = same_pcall
  frame_copied (xpcall v) h = same_xpcall v _ (value_copied v h.0)
  frame_copied handler h = same_handler
  frame_copied (closing e left) h =
      let a = every_front Had (error_fields e) (map of_value left) h in
      same_closing e _ left _ (error_copied e a.0) (values_copied left a.1)

  frames_copied : (fs : List Frame) → Every Had (flat_map frame_fields fs) → SameFrames q fs (map (frame_made T records) (map (frame_item N) fs))
  frames_copied fs h = zip_made (λ f. Every Had (frame_fields f)) (SameFrame q) (frame_item N) (frame_made T records) frame_copied fs (every_flat Had frame_fields fs h)

  -- each object that is met is the same as what is made of its record
  abbrev Made : {A : Type 0} → (A → A → Type 0) → (Record → Option A) → A → Record → Type 0
  Made {A} R make x r = (y : A) × (make r ≡ Some y) × R x y

  coroutine_copied : (co : ℕ) (c : Coroutine) → slice_get W.coroutines co ≡ Some c → kind_in (record_of_coroutine N c) ≡ Some a_coroutine → Every Had (coroutine_fields c) → Made (SameCoroutine q) (coroutine_made T records) c (record_of_coroutine N c)
  coroutine_copied co (fresh v) e k h = (_, refl, same_fresh v _ (value_copied v h.0))
  coroutine_copied co (suspended fs) e k h = (_, refl, same_suspended fs _ (frames_copied fs h))
  coroutine_copied co (in_progress fs) e k h = absurd (cc)
  coroutine_copied co (normal fs) e k h = absurd (cc)
  coroutine_copied co dead e k h = (_, refl, same_dead)
  coroutine_copied co (failed v vs) e k h = (_, refl, same_failed v _ vs _ (value_copied v h.0) (values_copied vs h.1))

  there : {A : Type 0} (f : A → Record) (P : Record → Type 0) → (P no_record → ⊥) → (o : Option A) → P (or_none f o) → (x : A) × (o ≡ Some x)
  there f P never None h = absurd (never h)
  there f P never (Some x) h = (x, refl)

  no_kind : (kind : Kind) → kind_in no_record ≡ Some kind → ⊥
  no_kind kind e = cc

  -- what stands where the record of a met object was loaded, for the objects of each sort
  module _ {A : Type 0} (kind : Kind) (R : A → A → Type 0) (given olds : List A) (written : A → Record) (held : A → List Field) (make : Record → Option A)
      (told : (r : Record) → is_of kind r ≡ is_some (make r)) (counted : count_in T kind ≡ length olds) where
    object_at : (i : ℕ) → Met (an_object kind i)
        → record_of N W (an_object kind i) ≡ or_none written (slice_get given i)
        → fields W (is_reached W name roots) (an_object kind i) ≡ if_there held (slice_get given i)
        → ((x : A) → slice_get given i ≡ Some x → kind_in (written x) ≡ Some kind → Every Had (held x) → Made R make x (written x))
        → Both R (slice_get given i) (slice_get (olds ++ chosen make records) (new_number T records kind (N.number (an_object kind i))))
    object_at i m is_record is_fields copied =
        let r = found (an_object kind i) m in
        let n : N.number (an_object kind i) ≡ r.0 = ap (λ x. unwrap_or x 0) r.1 in
        let w : kind_in (or_none written (slice_get given i)) ≡ Some kind = subst (λ x. kind_in x ≡ Some kind) is_record (can.written (an_object kind i) m) in
        let t = there written (λ x. kind_in x ≡ Some kind) (no_kind kind) (slice_get given i) w in
        let h : Every Had (held t.0) = subst (λ o. Every Had (if_there held o)) t.1 (subst (λ fs. Every Had fs) is_fields (closed_order (an_object kind i) m)) in
        let k : kind_in (written t.0) ≡ Some kind = subst (λ o. kind_in (or_none written o) ≡ Some kind) t.1 w in
        let e : slice_get records r.0 ≡ Some (written t.0) = r.2 ∙ ap (λ x. Some x) (is_record ∙ ap (or_none written) t.1) in
        let c = copied t.0 t.1 k h in
        both_from R _ _ t.0 c.0 t.1 (after_old make (is_of kind) records olds (count_in T kind) _ r.0 _ counted n (chosen_get (is_of kind) make told records r.0 _ _ e c.1)) c.2

  table_at : (i : ℕ) → Met (an_object a_table i) → Both (SameTable q) (slice_get W.heap.tables i) (slice_get (V.heap.tables ++ chosen (table_made T records) records) (new_number T records a_table (N.number (an_object a_table i))))
  table_at i m =
      object_at a_table (SameTable q) W.heap.tables V.heap.tables (record_of_table N) table_fields (table_made T records) (table_told T records) can.tables i m refl refl
      (λ t e k h. (table_copy t, refl, table_copied t h))

  function_at : (i : ℕ) → Met (an_object a_function i) → Both (SameFunction q) (slice_get W.functions i) (slice_get (V.functions ++ chosen (function_made T records) records) (new_number T records a_function (N.number (an_object a_function i))))
  function_at i m =
      object_at a_function (SameFunction q) W.functions V.functions (record_of_function N) (λ f. map of_cell f.cells) (function_made T records) (function_told T records) can.functions i m refl refl
      (λ f e k h. (function_copy f, refl, function_copied f h))

  coroutine_at : (i : ℕ) → Met (an_object a_coroutine i) → Both (SameCoroutine q) (slice_get W.coroutines i) (slice_get (V.coroutines ++ chosen (coroutine_made T records) records) (new_number T records a_coroutine (N.number (an_object a_coroutine i))))
  coroutine_at i m =
      object_at a_coroutine (SameCoroutine q) W.coroutines V.coroutines (record_of_coroutine N) coroutine_fields (coroutine_made T records) (coroutine_told T records) can.coroutines i m refl refl
      (coroutine_copied i)

  number_of : (kind : Kind) (i : ℕ) → Met (an_object kind i) → SameNumber q kind i (new_number T records kind (N.number (an_object kind i)))
  number_of kind i m =
      let r = found (an_object kind i) m in
      let n : N.number (an_object kind i) ≡ r.0 = ap (λ x. unwrap_or x 0) r.1 in
      rw (n, can.new_objects kind i m, r.1) refl

  -- what the order holds was reached before, where open cells counted as their values
  abbrev before : List Part
  before = visited W name (λ _. false) roots

  abbrev Before : Part → Type 0
  Before = IsMet same_part before

  before_closed : (o : Part) → Before o → Every (λ f. Every Before (field_parts name f)) (fields W (λ _. false) o)
  before_closed o m =
      let r = place_met same_part part_tells before o m in
      every_flat Before (field_parts name) (fields W (λ _. false) o)
      (every_at Before (parts W name (λ _. false) o) (λ j x e. order_closed same_part part_self (parts W name (λ _. false)) greatest_count root_parts can.few_reached r.0 o x j (place_get same_part part_tells before o r.0 r.1) e))

  abbrev Befores : List Field → Type 0
  Befores = Every (λ f. Every Before (field_parts name f))

  cell_before : (c : Cell) → Befores (cell_fields W (λ _. false) c) → Befores (cell_fields W (is_reached W name roots) c)
  cell_before (closed v) h = h
  cell_before (open_at co f r) h = go (is_reached W name roots co) refl
    where
      go : (b : Bool) → is_reached W name roots co ≡ b → Befores (cond b (of_coroutine co ∷ []) (of_value (present W (open_at co f r)) ∷ []))
      go true e = ((e, tt), tt)
      go false e = h

  fields_before : (o : Part) → Befores (fields W (λ _. false) o) → Befores (fields W (is_reached W name roots) o)
  fields_before (an_object a_table n) h = h
  fields_before (an_object a_function n) h = h
  fields_before (an_object a_coroutine n) h = h
  fields_before (a_cell n) h = go (slice_get W.cells n) h
    where
      go : (o : Option Cell) → Befores (if_there (cell_fields W (λ _. false)) o) → Befores (if_there (cell_fields W (is_reached W name roots)) o)
      go None h = tt
      go (Some c) h = cell_before c h

  all_before : Every Before os
  all_before = order_within same_part part_tells part_self Before (parts W name (is_reached W name roots))
      (λ o m. every_in_flat Before (field_parts name) (fields W (is_reached W name roots) o) (fields_before o (before_closed o m)))
      greatest_count root_parts (every_at Before root_parts (λ j x e. order_roots same_part part_self (parts W name (λ _. false)) greatest_count root_parts j x e))

  reached_inside : (co : ℕ) → Met (an_object a_coroutine co) → is_reached W name roots co ≡ true
  reached_inside co m =
      let r = place_met same_part part_tells os (an_object a_coroutine co) m in
      every_get Before os r.0 (an_object a_coroutine co) all_before (place_get same_part part_tells os (an_object a_coroutine co) r.0 r.1)

  -- pairs that are new
  new_object : (kind : Kind) (i j : ℕ) → SameNumber q kind i j → (base.objects kind i ≡ Some j) ⊎ (Met (an_object kind i) × (new_number T records kind (N.number (an_object kind i)) ≡ j))
  new_object kind i j h = ⊎_elim inl
      (λ t. let m = map_some (new_number T records kind) (place same_part os (an_object kind i)) j t.1 in
      let n : N.number (an_object kind i) ≡ m.0 = ap (λ x. unwrap_or x 0) m.1 in
      inr (placed_met same_part part_tells os (an_object kind i) m.0 m.1, rw n m.2))
      (or_cases (base.objects kind i) _ j h)

  new_cell_pair : (i j : ℕ) → SameCellNumber q i j → (base.cells i ≡ Some j) ⊎ (Met (a_cell i) × (new_cell T records (N.number (a_cell i)) ≡ j))
  new_cell_pair i j h = ⊎_elim inl
      (λ t. let m = map_some (new_cell T records) (place same_part os (a_cell i)) j t.1 in
      let n : N.number (a_cell i) ≡ m.0 = ap (λ x. unwrap_or x 0) m.1 in
      inr (placed_met same_part part_tells os (a_cell i) m.0 m.1, rw n m.2))
      (or_cases (base.cells i) _ j h)

  base_below : (kind : Kind) (i j : ℕ) → base.objects kind i ≡ Some j → j < count_in T kind
  base_below a_table i j h = let r = both_right (SameTable base) _ _ (can.base_same.tables i j h) in subst (λ n. j < n) (sym can.tables) (slice_get_within V.heap.tables j r.0 r.1)
  base_below a_function i j h = let r = both_right (SameFunction base) _ _ (can.base_same.functions i j h) in subst (λ n. j < n) (sym can.functions) (slice_get_within V.functions j r.0 r.1)
  base_below a_coroutine i j h = let r = both_right (SameCoroutine base) _ _ (can.base_same.coroutines i j h) in subst (λ n. j < n) (sym can.coroutines) (slice_get_within V.coroutines j r.0 r.1)

  base_cell_below : (i j : ℕ) → base.cells i ≡ Some j → j < T.cells
  base_cell_below i j h = let r = both_right (SameCell base W.coroutines V.coroutines) _ _ (can.base_same.cells i j h) in subst (λ n. j < n) (sym can.cells) (slice_get_within V.cells j r.0 r.1)

  is_of_written : (kind : Kind) (i : ℕ) → Met (an_object kind i) → is_of kind (record_of N W (an_object kind i)) ≡ true
  is_of_written kind i m = ap (is_kind kind) (can.written (an_object kind i) m) ∙ kind_self kind

  -- equal numbers are of one object
  same_place_of : (a b : Part) → Met a → Met b → N.number a ≡ N.number b → a ≡ b
  same_place_of a b m k e =
      let r = found a m in
      let s = found b k in
      let n : N.number a ≡ r.0 = ap (λ x. unwrap_or x 0) r.1 in
      let l : N.number b ≡ s.0 = ap (λ x. unwrap_or x 0) s.1 in
      let x = place_get same_part part_tells os a r.0 r.1 in
      let y = place_get same_part part_tells os b s.0 s.1 in
      let z : slice_get os r.0 ≡ slice_get os s.0 = ap (slice_get os) (sym n ∙ e ∙ l) in
      some_one (sym x ∙ z ∙ y)
    where
      some_one : Some a ≡ Some b → a ≡ b
      some_one e = cc

  object_one : (kind : Kind) (a b : ℕ) → Met (an_object kind a) → Met (an_object kind b) → new_number T records kind (N.number (an_object kind a)) ≡ new_number T records kind (N.number (an_object kind b)) → a ≡ b
  object_one kind a b m k e =
      let r = found (an_object kind a) m in
      let s = found (an_object kind b) k in
      let n : N.number (an_object kind a) ≡ r.0 = ap (λ x. unwrap_or x 0) r.1 in
      let l : N.number (an_object kind b) ≡ s.0 = ap (λ x. unwrap_or x 0) s.1 in
      let f : rank (is_of kind) records (N.number (an_object kind a)) ≡ rank (is_of kind) records (N.number (an_object kind b)) = omega (arith, e) in
      let g : rank (is_of kind) records r.0 ≡ rank (is_of kind) records s.0 = ap (rank (is_of kind) records) (sym n) ∙ f ∙ ap (rank (is_of kind) records) l in
      let h : r.0 ≡ s.0 = rank_one (is_of kind) records r.0 s.0 _ _ r.2 (is_of_written kind a m) s.2 (is_of_written kind b k) g in
      number_one (same_place_of (an_object kind a) (an_object kind b) m k (n ∙ h ∙ sym l))
    where
      number_one : an_object kind a ≡ an_object kind b → a ≡ b
      number_one e = cc

  cell_one : (a b : ℕ) → Met (a_cell a) → Met (a_cell b) → new_cell T records (N.number (a_cell a)) ≡ new_cell T records (N.number (a_cell b)) → a ≡ b
  cell_one a b m k e =
      let r = found (a_cell a) m in
      let s = found (a_cell b) k in
      let n : N.number (a_cell a) ≡ r.0 = ap (λ x. unwrap_or x 0) r.1 in
      let l : N.number (a_cell b) ≡ s.0 = ap (λ x. unwrap_or x 0) s.1 in
      let f : rank is_cell records (N.number (a_cell a)) ≡ rank is_cell records (N.number (a_cell b)) = omega (arith, e) in
      let g : rank is_cell records r.0 ≡ rank is_cell records s.0 = ap (rank is_cell records) (sym n) ∙ f ∙ ap (rank is_cell records) l in
      let h : r.0 ≡ s.0 = rank_one is_cell records r.0 s.0 _ _ r.2 (can.written (a_cell a) m) s.2 (can.written (a_cell b) k) g in
      number_one (same_place_of (a_cell a) (a_cell b) m k (n ∙ h ∙ sym l))
    where
      number_one : a_cell a ≡ a_cell b → a ≡ b
      number_one e = cc

  one_to_one : OneToOne q
  one_to_one = record {
    objects = λ kind a b j h g. ⊎_elim
        (λ s. ⊎_elim (λ t. can.base_same.one_to_one.objects kind a b j s t) (λ t. let u = base_below kind a j s in let v = t.1 in absurd (omega (arith, u, v))) (new_object kind b j g))
        (λ s. ⊎_elim (λ t. let u = base_below kind b j t in let v = s.1 in absurd (omega (arith, u, v))) (λ t. object_one kind a b s.0 t.0 (s.1 ∙ sym t.1)) (new_object kind b j g))
        (new_object kind a j h);
    cells = λ a b j h g. ⊎_elim
        (λ s. ⊎_elim (λ t. can.base_same.one_to_one.cells a b j s t) (λ t. let u = base_cell_below a j s in let v = t.1 in absurd (omega (arith, u, v))) (new_cell_pair b j g))
        (λ s. ⊎_elim (λ t. let u = base_cell_below b j t in let v = s.1 in absurd (omega (arith, u, v))) (λ t. cell_one a b s.0 t.0 (s.1 ∙ sym t.1)) (new_cell_pair b j g))
        (new_cell_pair a j h);
  }

  abbrev X : World
  X = loaded T records V

  tables_same : (i j : ℕ) → SameNumber q a_table i j → Both (SameTable q) (slice_get W.heap.tables i) (slice_get X.heap.tables j)
  tables_same i j h = ⊎_elim
      (λ t. both_on (SameTable base) (SameTable q) (table_on base q more) _ _ (both_old (SameTable base) W.heap.tables W.heap.tables V.heap.tables X.heap.tables i j (λ k x e. e) (get_push_old V.heap.tables _) (can.base_same.tables i j t)))
      (λ t. subst (λ j. Both (SameTable q) (slice_get W.heap.tables i) (slice_get X.heap.tables j)) t.1 (table_at i t.0))
      (new_object a_table i j h)

  functions_same : (i j : ℕ) → SameNumber q a_function i j → Both (SameFunction q) (slice_get W.functions i) (slice_get X.functions j)
  functions_same i j h = ⊎_elim
      (λ t. both_on (SameFunction base) (SameFunction q) (function_on base q more) _ _ (both_old (SameFunction base) W.functions W.functions V.functions X.functions i j (λ k x e. e) (get_push_old V.functions _) (can.base_same.functions i j t)))
      (λ t. subst (λ j. Both (SameFunction q) (slice_get W.functions i) (slice_get X.functions j)) t.1 (function_at i t.0))
      (new_object a_function i j h)

  coroutines_same : (i j : ℕ) → SameNumber q a_coroutine i j → Both (SameCoroutine q) (slice_get W.coroutines i) (slice_get X.coroutines j)
  coroutines_same i j h = ⊎_elim
      (λ t. both_on (SameCoroutine base) (SameCoroutine q) (coroutine_on base q more) _ _ (both_old (SameCoroutine base) W.coroutines W.coroutines V.coroutines X.coroutines i j (λ k x e. e) (get_push_old V.coroutines _) (can.base_same.coroutines i j t)))
      (λ t. subst (λ j. Both (SameCoroutine q) (slice_get W.coroutines i) (slice_get X.coroutines j)) t.1 (coroutine_at i t.0))
      (new_object a_coroutine i j h)

  -- a cell that was written
  not_first : (co : ℕ) → base.objects a_coroutine co ≡ None → is_reached W name roots co ≡ false → IsFirst q co → ⊥
  not_first co e out g = ⊎_elim (λ t. none_some g.0 (sym e ∙ t)) (λ t. let m = reached_inside co t.0 in cc) (new_object a_coroutine co g.0 g.1)

  cell_copied : (i : ℕ) (c : Cell) → Met (a_cell i) → slice_get W.cells i ≡ Some c → Every Had (cell_fields W (is_reached W name roots) c) → Made (SameCell q W.coroutines X.coroutines) (cell_made T records) c (record_of_cell N W c)
  cell_copied i (closed v) m e h = (_, refl, same_content (closed v) _ v _ (kept_closed v) (kept_closed _) (value_copied v h.0))
  cell_copied i (open_at co f r) m e h = go (is_reached W name roots co) refl h
    where
      go : (b : Bool) → is_reached W name roots co ≡ b → Every Had (cond b (of_coroutine co ∷ []) (of_value (present W (open_at co f r)) ∷ []))
          → Made (SameCell q W.coroutines X.coroutines) (cell_made T records) (open_at co f r) (cond b (open_record (N.number (an_object a_coroutine co)) f r) (closed_record (item N (present W (open_at co f r)))))
      go true t h = (_, refl, same_place co _ f r (number_of a_coroutine co h.0.0))
      go false t h =
          let v = can.left_there i co f r e in
          let n = can.new_apart i co f r m e in
          let z : present W (open_at co f r) ≡ v.0 = ap (λ o. unwrap_or o (known nil)) v.1 in
          (_, refl, same_content (open_at co f r) _ v.0 _ (kept_apart co f r v.0 (not_first co n t) v.1) (kept_closed _) (subst (λ u. SameValue q u (value_made T records (item N (present W (open_at co f r))))) z (value_copied (present W (open_at co f r)) h.0)))

  no_cell : is_cell no_record ≡ true → ⊥
  no_cell e = cc

  cell_at : (i : ℕ) → Met (a_cell i) → Both (SameCell q W.coroutines X.coroutines) (slice_get W.cells i) (slice_get X.cells (new_cell T records (N.number (a_cell i))))
  cell_at i m =
      let r = found (a_cell i) m in
      let n : N.number (a_cell i) ≡ r.0 = ap (λ x. unwrap_or x 0) r.1 in
      let t = there (record_of_cell N W) (λ x. is_cell x ≡ true) no_cell (slice_get W.cells i) (can.written (a_cell i) m) in
      let h : Every Had (cell_fields W (is_reached W name roots) t.0) = subst (λ o. Every Had (if_there (cell_fields W (is_reached W name roots)) o)) t.1 (closed_order (a_cell i) m) in
      let e : slice_get records r.0 ≡ Some (record_of_cell N W t.0) = r.2 ∙ ap (λ o. Some (or_none (record_of_cell N W) o)) t.1 in
      let c = cell_copied i t.0 m t.1 h in
      both_from (SameCell q W.coroutines X.coroutines) _ _ t.0 c.0 t.1
      (after_old (cell_made T records) is_cell records V.cells T.cells _ r.0 _ can.cells n (chosen_get is_cell (cell_made T records) (cell_told T records) records r.0 _ _ e c.1))
      c.2

  -- a cell that the permanents reach
  register_old : (co f r : ℕ) (w : Value) → register_at V.coroutines co f r ≡ Some w → (co < length V.coroutines) × (register_at X.coroutines co f r ≡ Some w)
  register_old co f r w h =
      let a = bind_some (bind (slice_get V.coroutines co) frames_of) (λ frames. bind (bind (slice_get frames f) lua_frame) (λ x. slice_get x.own.registers r)) w h in
      let b = bind_some (slice_get V.coroutines co) frames_of a.0 a.1 in (
        slice_get_within V.coroutines co b.0 b.1,
        ap (λ o. bind (bind o frames_of) (λ frames. bind (bind (slice_get frames f) lua_frame) (λ x. slice_get x.own.registers r))) (get_push_old V.coroutines (chosen (coroutine_made T records) records) co b.0 b.1 ∙ sym b.1) ∙ h,
      )

  old_cell : (i j : ℕ) → base.cells i ≡ Some j → (c d : Cell) → slice_get W.cells i ≡ Some c → SameCell base W.coroutines V.coroutines c d → SameCell q W.coroutines X.coroutines c d
  old_cell i j p c d e (same_place co co' f r at) = same_place co co' f r (more.objects a_coroutine co co' at)
  old_cell i j p c d e (same_content x y v w l m s) = same_content x y v w (left x v l e) (right y w m) (value_on base q more v w s)
    where
      left : (x : Cell) (v : Value) → Loose W.coroutines (IsFirst base) x v → slice_get W.cells i ≡ Some x → Loose W.coroutines (IsFirst q) x v
      left x v (kept_closed u) e = kept_closed u
      left x v (kept_apart co f r u n at) e = kept_apart co f r u (λ g. ⊎_elim (λ t. n (g.0, t)) (λ t. can.old_apart i j co f r p e t.0) (new_object a_coroutine co g.0 g.1)) at

      right : (y : Cell) (w : Value) → Loose V.coroutines (IsSecond base) y w → Loose X.coroutines (IsSecond q) y w
      right y w (kept_closed u) = kept_closed u
      right y w (kept_apart co f r u n at) =
          let k = register_old co f r u at in
          let l = k.0 in
          let z = can.coroutines in
          kept_apart co f r u (λ g. ⊎_elim (λ t. n (g.0, t)) (λ t. let y = t.1 in absurd (omega (arith, l, y, z))) (new_object a_coroutine g.0 co g.1)) k.1

  cells_same : (i j : ℕ) → SameCellNumber q i j → Both (SameCell q W.coroutines X.coroutines) (slice_get W.cells i) (slice_get X.cells j)
  cells_same i j h = ⊎_elim
      (λ t. let s = both_split (SameCell base W.coroutines V.coroutines) _ _ (can.base_same.cells i j t) in
      both_from (SameCell q W.coroutines X.coroutines) _ _ s.0 s.1 s.2 (get_push_old V.cells _ j s.1 s.3) (old_cell i j t s.0 s.1 s.2 s.4))
      (λ t. subst (λ j. Both (SameCell q W.coroutines X.coroutines) (slice_get W.cells i) (slice_get X.cells j)) t.1 (cell_at i t.0))
      (new_cell_pair i j h)

  roots_copied : SameValues q roots (map (value_made T records) (map (item N) roots))
  roots_copied = zip_made (λ v. Had (of_value v)) (SameValue q) (item N) (value_made T records) value_copied roots
      (every_flat Met (λ v. field_parts name (of_value v)) roots (every_at Met root_parts (λ j x e. order_roots same_part part_self (parts W name (is_reached W name roots)) greatest_count root_parts j x e)))

  -- open cells of the loaded world
  open_from : (o : Part) (c f r : ℕ) → record_of N W o ≡ open_record c f r → (k : ℕ) × (co : ℕ) × (o ≡ a_cell k) × (slice_get W.cells k ≡ Some (open_at co f r)) × (is_reached W name roots co ≡ true) × (N.number (an_object a_coroutine co) ≡ c)
  open_from (an_object a_table n) c f r h = absurd (no_table (slice_get W.heap.tables n) h)
    where
      no_table : (o : Option Table) → or_none (record_of_table N) o ≡ open_record c f r → ⊥
      no_table None h = cc
      no_table (Some t) h = cc
  open_from (an_object a_function n) c f r h = absurd (no_function (slice_get W.functions n) h)
    where
      no_function : (o : Option Function) → or_none (record_of_function N) o ≡ open_record c f r → ⊥
      no_function None h = cc
      no_function (Some t) h = cc
  open_from (an_object a_coroutine n) c f r h = absurd (no_coroutine (slice_get W.coroutines n) h)
    where
      no_coroutine : (o : Option Coroutine) → or_none (record_of_coroutine N) o ≡ open_record c f r → ⊥
      no_coroutine (Some (failed e vs)) h = cc
      no_coroutine _ h = cc
  open_from (a_cell k) c f r h = by_cell (slice_get W.cells k) refl h
    where
      by_cell : (o : Option Cell) → slice_get W.cells k ≡ o → or_none (record_of_cell N W) o ≡ open_record c f r → (l : ℕ) × (co : ℕ) × (a_cell k ≡ a_cell l) × (slice_get W.cells l ≡ Some (open_at co f r)) × (is_reached W name roots co ≡ true) × (N.number (an_object a_coroutine co) ≡ c)
      by_cell None e h = absurd (cc)
      by_cell (Some (closed v)) e h = absurd (cc)
      by_cell (Some (open_at co g s)) e h = by_test (is_reached W name roots co) refl h
        where
          by_test : (b : Bool) → is_reached W name roots co ≡ b → cond b (open_record (N.number (an_object a_coroutine co)) g s) (closed_record (item N (present W (open_at co g s)))) ≡ open_record c f r
              → (l : ℕ) × (co : ℕ) × (a_cell k ≡ a_cell l) × (slice_get W.cells l ≡ Some (open_at co f r)) × (is_reached W name roots co ≡ true) × (N.number (an_object a_coroutine co) ≡ c)
          by_test true t h =
              let x : N.number (an_object a_coroutine co) ≡ c = open_first h in
              let y : g ≡ f = open_second h in
              let z : s ≡ r = open_third h in
              (k, co, refl, subst (λ f. slice_get W.cells k ≡ Some (open_at co f r)) y (subst (λ r. slice_get W.cells k ≡ Some (open_at co g r)) z e), t, x)
            where
              open_first : {a b c d e f : ℕ} → open_record a b c ≡ open_record d e f → a ≡ d
              open_first h = cc

              open_second : {a b c d e f : ℕ} → open_record a b c ≡ open_record d e f → b ≡ e
              open_second h = cc

              open_third : {a b c d e f : ℕ} → open_record a b c ≡ open_record d e f → c ≡ f
              open_third h = cc
          by_test false t h = absurd (cc)

  os_of_records : (n : ℕ) (r : Record) → slice_get records n ≡ Some r → (o : Part) × (slice_get os n ≡ Some o) × (record_of N W o ≡ r)
  os_of_records n r h = map_some (record_of N W) (slice_get os n) r (sym (slice_get-map (record_of N W) os n) ∙ h)

  met_at : (n : ℕ) (o : Part) → slice_get os n ≡ Some o → Met o
  met_at n o h = get_met same_part part_tells part_self os o n h

  -- what an open cell of the loaded world was, where it is new
  abbrev NewOpen : ℕ → ℕ → ℕ → ℕ → Type 0
  NewOpen i co f r = (n : ℕ) × (k : ℕ) × (c : ℕ) × (slice_get os n ≡ Some (a_cell k)) × (slice_get W.cells k ≡ Some (open_at c f r)) × Met (an_object a_coroutine c) × (co ≡ new_number T records a_coroutine (N.number (an_object a_coroutine c))) × (i ≡ length V.cells + rank is_cell records n)

  new_open : (i m co f r : ℕ) → i ≡ length V.cells + m → slice_get (chosen (cell_made T records) records) m ≡ Some (open_at co f r) → NewOpen i co f r
  new_open i m co f r e h =
      let a = chosen_from is_cell (cell_made T records) (cell_told T records) records m (open_at co f r) h in
      let b = open_made T records a.1 co f r a.3 in
      let c = os_of_records a.0 a.1 a.2 in
      let d = open_from c.0 b.0 f r (c.2 ∙ b.1) in
      let at : slice_get os a.0 ≡ Some (a_cell d.0) = c.1 ∙ ap Some d.2 in
      let fs = closed_order (a_cell d.0) (met_at a.0 (a_cell d.0) at) in
      let gs : Every Had (cell_fields W (is_reached W name roots) (open_at d.1 f r)) = subst (λ o. Every Had (if_there (cell_fields W (is_reached W name roots)) o)) d.3 fs in
      let hs : Every Had (of_coroutine d.1 ∷ []) = subst (λ x. Every Had (cond x (of_coroutine d.1 ∷ []) (of_value (present W (open_at d.1 f r)) ∷ []))) d.4 gs in
      (a.0, d.0, d.1, at, d.3, hs.0.0, b.2 ∙ ap (new_number T records a_coroutine) (sym d.5), e ∙ ap (λ x. length V.cells + x) a.4)

  new_twice : (i j co f r : ℕ) → NewOpen i co f r → NewOpen j co f r → i ≡ j
  new_twice i j co f r a b =
      let e : a.2 ≡ b.2 = object_one a_coroutine a.2 b.2 a.5 b.5 (sym a.6 ∙ b.6) in
      let k : a.1 ≡ b.1 = can.base_same.one_each.0 a.1 b.1 b.2 f r (subst (λ c. slice_get W.cells a.1 ≡ Some (open_at c f r)) e a.4) b.4 in
      let n : a.0 ≡ b.0 = order_once same_part part_tells part_self (parts W name (is_reached W name roots)) greatest_count root_parts a.0 b.0 (a_cell b.1) (subst (λ k. slice_get os a.0 ≡ Some (a_cell k)) k a.3) b.3 in
      a.7 ∙ (ap (λ n. length V.cells + rank is_cell records n) n ∙ sym b.7)

  one_open : OneEach X.cells
  one_open i j co f r h g = ⊎_elim
      (λ s. ⊎_elim (λ t. can.base_same.one_each.1 i j co f r s.0 t.0) (λ t. absurd (apart i s.0 (new_open j t.0 co f r t.1 t.2))) (get_split V.cells (chosen (cell_made T records) records) j (open_at co f r) g))
      (λ s. ⊎_elim (λ t. absurd (apart j t.0 (new_open i s.0 co f r s.1 s.2))) (λ t. new_twice i j co f r (new_open i s.0 co f r s.1 s.2) (new_open j t.0 co f r t.1 t.2)) (get_split V.cells (chosen (cell_made T records) records) j (open_at co f r) g))
      (get_split V.cells (chosen (cell_made T records) records) i (open_at co f r) h)
    where
      apart : (i : ℕ) {j : ℕ} → slice_get V.cells i ≡ Some (open_at co f r) → NewOpen j co f r → ⊥
      apart i h b = let u = can.right_there i co f r h in let v = b.6 in let z = can.coroutines in omega (arith, u, v, z)

  loaded_alike : LoadedAlike base W V T name roots q
  loaded_alike = record {
    more = more;
    objects = record { one_to_one = one_to_one; tables = tables_same; functions = functions_same; coroutines = coroutines_same; cells = cells_same; one_each = (can.base_same.one_each.0, one_open) };
    roots_same = roots_copied;
  }

pub loaded_agrees : LoadedAgrees
loaded_agrees base W V T name roots can = loaded_alike base W V T name roots can

-- The image of a world names its records in order.
use Rattle.std.proofs.Common.{append_assoc, suc, ℕ, ◌≡◌, List, [], ◌∷◌, ◌++◌, Option, Some, None, refl, sym, ap, ◌∙◌, length, map, Bool, true, false, cond}
use Rattle.std.specs.Prelude.{slice_get, flat_map, option_map}
use Rattle.int_core.specs.Value.{a_table, a_function, a_coroutine, Value, known, object}
use Rattle.int_core.specs.Heap.{Table}
use Rattle.machine_core.specs.World.{Cell, closed, open_at, Wait, leaving, Frame, lua, pcall, xpcall, handler, closing, Coroutine, fresh, suspended, in_progress, normal, dead, failed, World}
use Rattle.image_core.specs.Visit.{add_new, greatest_count}
use Rattle.image_core.specs.Image.{Item, Record, open_record, closed_record}
use Rattle.image_core.specs.Records.{Part, an_object, a_cell, same_part, Field, of_value, of_cell, of_coroutine, row_fields, metatable_value, table_fields, wait_fields, error_fields, frame_fields, coroutine_fields, present, cell_fields, if_there, value_parts, unless_named, field_parts, parts, is_reached, parts_in_order, Naming, unnamed_item, or_item, item, wait_item, frame_item, row_item, record_of_table, record_of_function, record_of_coroutine, record_of_cell, or_none, record_of, naming, image_by}
use Rattle.image_core.specs.Numbers.{item_numbers, items_numbers, wait_numbers, error_numbers, frame_numbers, record_numbers, walk, walk_records}
use Rattle.image_same.specs.Same.{InOrder, ImagesInOrder}
use Rattle.image_same.proofs.Order.{walk_order}
use Rattle.image_core.proofs.Parts.{part_self}

map_append : {A B : Type 0} (f : A → B) (xs ys : List A) → map f (xs ++ ys) ≡ map f xs ++ map f ys
map_append f [] ys = refl
map_append f (x ∷ xs) ys = ap (λ zs. f x ∷ zs) (map_append f xs ys)

flat_append : {A B : Type 0} (f : A → List B) (xs ys : List A) → flat_map f (xs ++ ys) ≡ flat_map f xs ++ flat_map f ys
flat_append f [] ys = refl
flat_append f (x ∷ xs) ys = rw (flat_append f xs ys) (sym (append_assoc (f x) (flat_map f xs) (flat_map f ys)))

map_map : {A B C : Type 0} (f : A → B) (g : B → C) (xs : List A) → map g (map f xs) ≡ map (λ x. g (f x)) xs
map_map f g [] = refl
map_map f g (x ∷ xs) = ap (λ ys. g (f x) ∷ ys) (map_map f g xs)

map_alike : {A B : Type 0} (f g : A → B) → ((x : A) → f x ≡ g x) → (xs : List A) → map f xs ≡ map g xs
map_alike f g h [] = refl
map_alike f g h (x ∷ xs) = rw (h x, map_alike f g h xs) refl

module _ (W : World) (name : Value → Option Item) (roots : List Value) (plainly : (v : Value) (i : Item) → name v ≡ Some i → item_numbers i ≡ []) where
  abbrev N : Naming
  N = naming W name roots

  -- the numbers of the parts of some fields
  abbrev told : List Field → List ℕ
  told fs = map N.number (flat_map (field_parts name) fs)

  told_append : (fs gs : List Field) → told (fs ++ gs) ≡ told fs ++ told gs
  told_append fs gs = ap (map N.number) (flat_append (field_parts name) fs gs) ∙ map_append N.number (flat_map (field_parts name) fs) (flat_map (field_parts name) gs)

  told_one : (f : Field) (fs : List Field) → told (f ∷ fs) ≡ map N.number (field_parts name f) ++ told fs
  told_one f fs = map_append N.number (field_parts name f) (flat_map (field_parts name) fs)

  item_told : (v : Value) → item_numbers (item N v) ≡ map N.number (field_parts name (of_value v))
  item_told v = go (name v) refl
    where
      go : (o : Option Item) → name v ≡ o → item_numbers (or_item o (unnamed_item N v)) ≡ map N.number (unless_named o (value_parts v))
      go (Some i) e = plainly v i e
      go None e = by_value v
        where
          by_value : (v : Value) → item_numbers (unnamed_item N v) ≡ map N.number (value_parts v)
          by_value (known p) = refl
          by_value (object k n) = refl

  append_none : {A : Type 0} (xs : List A) → xs ++ [] ≡ xs
  append_none [] = refl
  append_none (x ∷ xs) = ap (λ ys. x ∷ ys) (append_none xs)

  one_told : (v : Value) → item_numbers (item N v) ≡ told (of_value v ∷ [])
  one_told v = sym (append_none (item_numbers (item N v))) ∙ (ap (λ ns. ns ++ []) (item_told v) ∙ sym (told_one (of_value v) []))

  items_told : (vs : List Value) → items_numbers (map (item N) vs) ≡ told (map of_value vs)
  items_told [] = refl
  items_told (v ∷ vs) = rw (item_told v, items_told vs) (sym (told_one (of_value v) (map of_value vs)))

  rows_told : (rows : List (Value × Value)) → flat_map (λ row. item_numbers row.0 ++ item_numbers row.1) (map (row_item N) rows) ≡ told (flat_map row_fields rows)
  rows_told [] = refl
  rows_told (row ∷ rows) =
      rw (item_told row.0, item_told row.1, rows_told rows) (join (map N.number (field_parts name (of_value row.0))) (map N.number (field_parts name (of_value row.1))) (told (flat_map row_fields rows)) ∙ sym (told_one (of_value row.0) (of_value row.1 ∷ flat_map row_fields rows) ∙ ap (λ ns. map N.number (field_parts name (of_value row.0)) ++ ns) (told_one (of_value row.1) (flat_map row_fields rows))))
    where
      join : (xs ys zs : List ℕ) → (xs ++ ys) ++ zs ≡ xs ++ (ys ++ zs)
      join [] ys zs = refl
      join (x ∷ xs) ys zs = ap (λ us. x ∷ us) (join xs ys zs)

  table_told : (t : Table) → record_numbers (record_of_table N t) ≡ told (table_fields t)
  table_told t = rw (rows_told t.rows, one_told (metatable_value t.metatable)) (sym (told_append (flat_map row_fields t.rows) (of_value (metatable_value t.metatable) ∷ [])))

  cells_told : (cs : List ℕ) → map (λ c. N.number (a_cell c)) cs ≡ told (map of_cell cs)
  cells_told [] = refl
  cells_told (c ∷ cs) = ap (λ ns. N.number (a_cell c) ∷ ns) (cells_told cs)

  wait_told : (w : Wait Value) → wait_numbers (wait_item N w) ≡ told (wait_fields w)
  wait_told (leaving e) = one_told e
  wait_told _ = refl

  error_told : (e : Option Value) → error_numbers (option_map (item N) e) ≡ told (error_fields e)
  error_told None = refl
  error_told (Some e) = one_told e

  frame_told : (f : Frame) → frame_numbers (frame_item N f) ≡ told (frame_fields f)
  frame_told (lua f) =
      rw (item_told (object a_function f.function), items_told f.own.varargs, items_told f.own.registers, wait_told f.wait)
      (ap (λ ns. map N.number (field_parts name (of_value (object a_function f.function))) ++ ns)
      (ap (λ ns. told (map of_value f.own.varargs) ++ ns) (sym (told_append (map of_value f.own.registers) (wait_fields f.wait))) ∙ sym (told_append (map of_value f.own.varargs) (map of_value f.own.registers ++ wait_fields f.wait)))
      ∙ sym (told_one (of_value (object a_function f.function)) (map of_value f.own.varargs ++ (map of_value f.own.registers ++ wait_fields f.wait))))
  frame_told pcall = refl
  frame_told (xpcall h) = one_told h
  frame_told handler = refl
  frame_told (closing e left) = rw (error_told e, items_told left) (sym (told_append (error_fields e) (map of_value left)))

  frames_told : (fs : List Frame) → flat_map frame_numbers (map (frame_item N) fs) ≡ told (flat_map frame_fields fs)
  frames_told [] = refl
  frames_told (f ∷ fs) = rw (frame_told f, frames_told fs) (sym (told_append (frame_fields f) (flat_map frame_fields fs)))

  coroutine_told : (c : Coroutine) → record_numbers (record_of_coroutine N c) ≡ told (coroutine_fields c)
  coroutine_told (fresh b) = one_told b
  coroutine_told (suspended fs) = frames_told fs
  coroutine_told (in_progress fs) = refl
  coroutine_told (normal fs) = refl
  coroutine_told dead = refl
  coroutine_told (failed e pending) = rw (item_told e, items_told pending) (sym (told_one (of_value e) (map of_value pending)))

  cell_told : (c : Cell) → record_numbers (record_of_cell N W c) ≡ told (cell_fields W (is_reached W name roots) c)
  cell_told (closed v) = one_told v
  cell_told (open_at co f r) = go (is_reached W name roots co)
    where
      go : (b : Bool) → record_numbers (cond b (open_record (N.number (an_object a_coroutine co)) f r) (closed_record (item N (present W (open_at co f r))))) ≡ told (cond b (of_coroutine co ∷ []) (of_value (present W (open_at co f r)) ∷ []))
      go true = refl
      go false = one_told (present W (open_at co f r))

  there_told : {A : Type 0} (f : A → Record) (g : A → List Field) → ((x : A) → record_numbers (f x) ≡ told (g x)) → (o : Option A) → record_numbers (or_none f o) ≡ told (if_there g o)
  there_told f g h None = refl
  there_told f g h (Some x) = h x

  record_told : (o : Part) → record_numbers (record_of N W o) ≡ map N.number (parts W name (is_reached W name roots) o)
  record_told (an_object a_table n) = there_told (record_of_table N) table_fields table_told (slice_get W.heap.tables n)
  record_told (an_object a_function n) = there_told (record_of_function N) (λ f. map of_cell f.cells) (λ f. cells_told f.cells) (slice_get W.functions n)
  record_told (an_object a_coroutine n) = there_told (record_of_coroutine N) coroutine_fields coroutine_told (slice_get W.coroutines n)
  record_told (a_cell n) = there_told (record_of_cell N W) (cell_fields W (is_reached W name roots)) cell_told (slice_get W.cells n)

  roots_told : (vs : List Value) → items_numbers (map (item N) vs) ≡ map N.number (flat_map (λ v. field_parts name (of_value v)) vs)
  roots_told [] = refl
  roots_told (v ∷ vs) = rw (item_told v, roots_told vs) (sym (map_append N.number (field_parts name (of_value v)) (flat_map (λ v. field_parts name (of_value v)) vs)))

  length_map : {A B : Type 0} (f : A → B) (xs : List A) → length (map f xs) ≡ length xs
  length_map f [] = refl
  length_map f (x ∷ xs) = ap suc (length_map f xs)

  in_order : slice_get (parts_in_order W name roots) greatest_count ≡ None → InOrder (image_by W name roots)
  in_order h =
      let os = parts_in_order W name roots in
      let rs : List Part = flat_map (λ v. field_parts name (of_value v)) roots in
      let first : ℕ = length (add_new same_part [] rs) in
      let w = walk_order same_part part_self (parts W name (is_reached W name roots)) greatest_count rs h in
      let l : length (map (record_of N W) os) ≡ length os = length_map (record_of N W) os in
      let a : walk (length os) 0 (items_numbers (map (item N) roots)) ≡ Some first = ap (walk (length os) 0) (roots_told roots) ∙ w.0 in
      let b : walk_records (length os) 0 first (map record_numbers (map (record_of N W) os)) ≡ Some (length os) = ap (walk_records (length os) 0 first) (map_map (record_of N W) record_numbers os ∙ map_alike (λ o. record_numbers (record_of N W o)) (λ o. map N.number (parts W name (is_reached W name roots) o)) record_told os) ∙ w.1 in
      record {
        met = first;
        roots = ap (λ n. walk n 0 (items_numbers (map (item N) roots))) l ∙ a;
        records = ap (λ n. walk_records n 0 first (map record_numbers (map (record_of N W) os))) l ∙ (b ∙ ap Some (sym l));
      }

pub images_in_order : ImagesInOrder
images_in_order W name roots plainly h = in_order W name roots plainly h

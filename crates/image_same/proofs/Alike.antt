-- Worlds that agree have the same images.
use Rattle.std.proofs.Common.{arith, ℕ, ◌≡◌, List, [], ◌∷◌, Option, Some, None, refl, subst, sym, ap, ◌∙◌, Bool, true, false, cond, map}
use Rattle.std.specs.Prelude.{flat_map, option_map, unwrap_or, ◌&&◌, nat_eq}
use Rattle.std.specs.List.{AllZip}
use Rattle.int_core.specs.Value.{Kind, a_table, a_function, a_coroutine, same_kind, Value, known, nil}
use Rattle.int_core.specs.Heap.{Table}
use Rattle.machine_core.specs.World.{Function, Cell, open_at, Wait, LuaFrame, Frame, Coroutine, World}
use Rattle.machine_alike.specs.Agree.{Pairs, SameNumber, SameCellNumber, Each, Both, SameValue, same_known, same_object, SameValues, SameRow, SameTable, SameFunction, SameWait, same_leaving, SameLuaFrame, SameFrame, same_lua, same_pcall, same_xpcall, same_handler, same_closing, SameCoroutine, same_fresh, same_suspended, same_in_progress, same_normal, same_dead, same_failed, OneToOne, IsFirst, IsSecond, Loose, kept_closed, kept_apart, SameCell, same_place, same_content, objects_of, SameObjects}
use Rattle.machine_alike.proofs.Pairwise.{zip_append, zip_parts, cond_rel}
use Rattle.machine_alike.proofs.Tables.{nat_eq_same, equal_same}
use Rattle.machine_alike.proofs.CellWrites.{register_same}
use Rattle.image_core.specs.Visit.{met, greatest_count}
use Rattle.image_core.specs.Image.{Perm, Item, numbered, lua_item, Record, closed_record, open_record}
use Rattle.image_core.specs.Records.{Part, an_object, a_cell, same_part, Field, of_value, of_cell, of_coroutine, row_fields, metatable_value, table_fields, wait_fields, error_fields, frame_fields, coroutine_fields, present, cell_fields, if_there, fields, key_of, sort_of, named, value_parts, unless_named, field_parts, parts, visited, is_reached, parts_in_order, Naming, unnamed_item, or_item, item, wait_item, lua_frame_item, frame_item, row_item, record_of_table, record_of_function, record_of_coroutine, record_of_cell, or_none, record_of, naming, image_by}
use Rattle.image_same.specs.Same.{SamePerm, ImagesSame}
use Rattle.image_core.proofs.Visits.{met_same, place_same, order_same}
use Rattle.int_core.proofs.Equality.{kind_is}

pub data SamePart (p : Pairs) : Part → Part → Type 0 where
  both_objects : (kind : Kind) (i j : ℕ) → SameNumber p kind i j → SamePart p (an_object kind i) (an_object kind j)
  both_cells : (i j : ℕ) → SameCellNumber p i j → SamePart p (a_cell i) (a_cell j)

data SameField (p : Pairs) : Field → Field → Type 0 where
  both_values : (v w : Value) → SameValue p v w → SameField p (of_value v) (of_value w)
  both_of_cells : (i j : ℕ) → SameCellNumber p i j → SameField p (of_cell i) (of_cell j)
  both_coroutines : (i j : ℕ) → SameNumber p a_coroutine i j → SameField p (of_coroutine i) (of_coroutine j)

-- names that are the same for values that are the same
abbrev SameNames : Pairs → (Value → Option Item) → (Value → Option Item) → Type 0
SameNames p name name' = (v w : Value) → SameValue p v w → name v ≡ name' w

record SameInside (p : Pairs) (inside inside' : ℕ → Bool) : Type 0 where
  pub paired : (co co' : ℕ) → SameNumber p a_coroutine co co' → inside co ≡ inside' co'
  pub first : (co : ℕ) → (IsFirst p co → ⊥) → inside co ≡ false
  pub second : (co : ℕ) → (IsSecond p co → ⊥) → inside' co ≡ false

zip_map : {A B C D : Type 0} (R : A → B → Type 0) (S : C → D → Type 0) (f : A → C) (g : B → D) → ((a : A) (b : B) → R a b → S (f a) (g b)) → (xs : List A) (ys : List B) → AllZip R xs ys → AllZip S (map f xs) (map g ys)
zip_map R S f g h [] [] z = tt
zip_map R S f g h [] (y ∷ ys) z = absurd z
zip_map R S f g h (x ∷ xs) [] z = absurd z
zip_map R S f g h (x ∷ xs) (y ∷ ys) z = (h x y z.0, zip_map R S f g h xs ys z.1)

zip_turned : {A B : Type 0} (R : A → B → Type 0) (xs : List A) (ys : List B) → AllZip R xs ys → AllZip (λ y x. R x y) ys xs
zip_turned R [] [] z = tt
zip_turned R [] (y ∷ ys) z = absurd z
zip_turned R (x ∷ xs) [] z = absurd z
zip_turned R (x ∷ xs) (y ∷ ys) z = (z.0, zip_turned R xs ys z.1)

zip_equal : {A B C : Type 0} (R : A → B → Type 0) (f : A → C) (g : B → C) → ((a : A) (b : B) → R a b → f a ≡ g b) → (xs : List A) (ys : List B) → AllZip R xs ys → map f xs ≡ map g ys
zip_equal R f g h [] [] z = refl
zip_equal R f g h [] (y ∷ ys) z = absurd z
zip_equal R f g h (x ∷ xs) [] z = absurd z
zip_equal R f g h (x ∷ xs) (y ∷ ys) z = rw (h x y z.0, zip_equal R f g h xs ys z.1) refl

or_nil : (p : Pairs) (o o' : Option Value) → Each (SameValue p) o o' → SameValue p (unwrap_or o (known nil)) (unwrap_or o' (known nil))
or_nil p None None h = same_known nil
or_nil p None (Some w) h = absurd h
or_nil p (Some v) None h = absurd h
or_nil p (Some v) (Some w) h = h

part_same : (p : Pairs) → OneToOne p → (a b c d : Part) → SamePart p a c → SamePart p b d → same_part a b ≡ same_part c d
part_same p one a b c d (both_objects k i j h) (both_objects l m n g) = go (same_kind k l) refl
  where
    go : (b : Bool) → same_kind k l ≡ b → b && nat_eq i m ≡ b && nat_eq j n
    go true e = nat_eq_same (p.objects k) i m j n (one.objects k) h (subst (λ x. p.objects x m ≡ Some n) (sym (kind_is k l e)) g)
    go false e = refl
part_same p one a b c d (both_objects k i j h) (both_cells m n g) = refl
part_same p one a b c d (both_cells i j h) (both_objects l m n g) = refl
part_same p one a b c d (both_cells i j h) (both_cells m n g) = nat_eq_same p.cells i m j n one.cells h g

-- what is met is paired
none_met : (R : Part → Part → Type 0) (o : Part) → ((x y : Part) → R x y → same_part x o ≡ false) → (xs ys : List Part) → AllZip R xs ys → met same_part xs o ≡ false
none_met R o other [] [] h = refl
none_met R o other [] (y ∷ ys) h = absurd h
none_met R o other (x ∷ xs) [] h = absurd h
none_met R o other (x ∷ xs) (y ∷ ys) h = go (same_part x o) (other x y h.0) (none_met R o other xs ys h.1)
  where
    go : (b : Bool) → b ≡ false → met same_part xs o ≡ false → cond b true (met same_part xs o) ≡ false
    go b e m = rw e m

not_equal : (i j : ℕ) → (i ≡ j → ⊥) → nat_eq i j ≡ false
not_equal i j ne = search (arith, ne)

-- an object is another one than a coroutine
another : (k : Kind) (i co : ℕ) → (k ≡ a_coroutine → i ≡ co → ⊥) → same_part (an_object k i) (an_object a_coroutine co) ≡ false
another a_table i co ne = refl
another a_function i co ne = refl
another a_coroutine i co ne = not_equal i co (ne refl)

met_paired : (p : Pairs) (xs ys : List Part) (co : ℕ) → AllZip (SamePart p) xs ys → (IsFirst p co → ⊥) → met same_part xs (an_object a_coroutine co) ≡ false
met_paired p xs ys co h n = none_met (SamePart p) (an_object a_coroutine co) unpaired xs ys h
  where
    unpaired : (x y : Part) → SamePart p x y → same_part x (an_object a_coroutine co) ≡ false
    unpaired x y (both_objects k i j g) = another k i co (λ kinds numbers. n (j, subst (λ i. SameNumber p a_coroutine i j) numbers (subst (λ k. SameNumber p k i j) kinds g)))
    unpaired x y (both_cells i j g) = refl

met_second : (p : Pairs) (xs ys : List Part) (co : ℕ) → AllZip (SamePart p) xs ys → (IsSecond p co → ⊥) → met same_part ys (an_object a_coroutine co) ≡ false
met_second p xs ys co h n = none_met (λ y x. SamePart p x y) (an_object a_coroutine co) unpaired ys xs (zip_turned (SamePart p) xs ys h)
  where
    unpaired : (y x : Part) → SamePart p x y → same_part y (an_object a_coroutine co) ≡ false
    unpaired y x (both_objects k i j g) = another k j co (λ kinds numbers. n (i, subst (λ j. SameNumber p a_coroutine i j) numbers (subst (λ k. SameNumber p k i j) kinds g)))
    unpaired y x (both_cells i j g) = refl

module _ (p : Pairs) (W X : World) (a : SameObjects p (objects_of W) (objects_of X)) where
  abbrev Fields : List Field → List Field → Type 0
  Fields = AllZip (SameField p)

  values_fields : (vs ws : List Value) → SameValues p vs ws → Fields (map of_value vs) (map of_value ws)
  values_fields = zip_map (SameValue p) (SameField p) of_value of_value both_values

  metatable_same : (m n : Option ℕ) → Each (SameNumber p a_table) m n → SameValue p (metatable_value m) (metatable_value n)
  metatable_same None None h = same_known nil
  metatable_same None (Some n) h = absurd h
  metatable_same (Some m) None h = absurd h
  metatable_same (Some m) (Some n) h = same_object a_table m n h

  table_same : (t u : Table) → SameTable p t u → Fields (table_fields t) (table_fields u)
  table_same t u h = zip_append (SameField p) (flat_map row_fields t.rows) (flat_map row_fields u.rows) _ _
      (zip_parts (SameRow p) (SameField p) row_fields row_fields (λ x y r. (both_values x.0 y.0 r.0, (both_values x.1 y.1 r.1, tt))) t.rows u.rows h.rows)
      (both_values _ _ (metatable_same t.metatable u.metatable h.metatable), tt)

  function_same : (f g : Function) → SameFunction p f g → Fields (map of_cell f.cells) (map of_cell g.cells)
  function_same f g h = zip_map (SameCellNumber p) (SameField p) of_cell of_cell both_of_cells f.cells g.cells h.cells

  wait_same : (v w : Wait Value) → SameWait p v w → Fields (wait_fields v) (wait_fields w)
  wait_same v w (same_leaving x y h) = (both_values x y h, tt)
  wait_same v w _ = tt

  error_same : (e f : Option Value) → Each (SameValue p) e f → Fields (error_fields e) (error_fields f)
  error_same None None h = tt
  error_same None (Some f) h = absurd h
  error_same (Some e) None h = absurd h
  error_same (Some e) (Some f) h = (both_values e f h, tt)

  frame_same : (f g : Frame) → SameFrame p f g → Fields (frame_fields f) (frame_fields g)
  frame_same f g (same_lua x y h) = (
    both_values _ _ (same_object a_function x.function y.function h.function),
    zip_append (SameField p) (map of_value x.own.varargs) (map of_value y.own.varargs) _ _ (values_fields x.own.varargs y.own.varargs h.own.varargs)
        (zip_append (SameField p) (map of_value x.own.registers) (map of_value y.own.registers) _ _ (values_fields x.own.registers y.own.registers h.own.registers) (wait_same x.wait y.wait h.wait)),
  )
  frame_same f g same_pcall = tt
  frame_same f g (same_xpcall v w h) = (both_values v w h, tt)
  frame_same f g same_handler = tt
  frame_same f g (same_closing e e' vs ws h k) = zip_append (SameField p) (error_fields e) (error_fields e') _ _ (error_same e e' h) (values_fields vs ws k)

  coroutine_same : (c d : Coroutine) → SameCoroutine p c d → Fields (coroutine_fields c) (coroutine_fields d)
  coroutine_same c d (same_fresh v w h) = (both_values v w h, tt)
  coroutine_same c d (same_suspended fs gs h) = zip_parts (SameFrame p) (SameField p) frame_fields frame_fields frame_same fs gs h
  coroutine_same c d (same_in_progress fs gs h) = tt
  coroutine_same c d (same_normal fs gs h) = tt
  coroutine_same c d same_dead = tt
  coroutine_same c d (same_failed v w vs ws h k) = (both_values v w h, values_fields vs ws k)

  present_same : (co co' f r : ℕ) → SameNumber p a_coroutine co co' → SameValue p (present W (open_at co f r)) (present X (open_at co' f r))
  present_same co co' f r h = or_nil p _ _ (register_same p W.coroutines X.coroutines co co' f r (a.coroutines co co' h))

  loose_fields : (Y : World) (P : ℕ → Type 0) (inside : ℕ → Bool) → ((co : ℕ) → (P co → ⊥) → inside co ≡ false) → (c : Cell) (v : Value) → Loose Y.coroutines P c v → cell_fields Y inside c ≡ of_value v ∷ []
  loose_fields Y P inside out c v (kept_closed w) = refl
  loose_fields Y P inside out c v (kept_apart co f r w n at) = rw (out co n, at) refl

  cell_same : (inside inside' : ℕ → Bool) → SameInside p inside inside' → (c d : Cell) → SameCell p W.coroutines X.coroutines c d → Fields (cell_fields W inside c) (cell_fields X inside' d)
  cell_same inside inside' i c d (same_place co co' f r h) =
      cond_rel Fields (inside co) (inside' co') _ _ _ _ (i.paired co co' h) (both_coroutines co co' h, tt) (both_values _ _ (present_same co co' f r h), tt)
  cell_same inside inside' i c d (same_content x y v w l m s) =
      rw (loose_fields W (IsFirst p) inside i.first x v l, loose_fields X (IsSecond p) inside' i.second y w m) (both_values v w s, tt)

  there_same : {A B : Type 0} (R : A → B → Type 0) (f : A → List Field) (g : B → List Field) → ((x : A) (y : B) → R x y → Fields (f x) (g y)) → (o : Option A) (q : Option B) → Both R o q → Fields (if_there f o) (if_there g q)
  there_same R f g h None q b = absurd b
  there_same R f g h (Some x) None b = absurd b
  there_same R f g h (Some x) (Some y) b = h x y b

  fields_same : (inside inside' : ℕ → Bool) → SameInside p inside inside' → (o q : Part) → SamePart p o q → Fields (fields W inside o) (fields X inside' q)
  fields_same inside inside' s o q (both_objects a_table i j h) = there_same (SameTable p) table_fields table_fields table_same _ _ (a.tables i j h)
  fields_same inside inside' s o q (both_objects a_function i j h) = there_same (SameFunction p) (λ f. map of_cell f.cells) (λ f. map of_cell f.cells) function_same _ _ (a.functions i j h)
  fields_same inside inside' s o q (both_objects a_coroutine i j h) = there_same (SameCoroutine p) coroutine_fields coroutine_fields coroutine_same _ _ (a.coroutines i j h)
  fields_same inside inside' s o q (both_cells i j h) = there_same (SameCell p W.coroutines X.coroutines) (cell_fields W inside) (cell_fields X inside') (cell_same inside inside' s) _ _ (a.cells i j h)

  module _ (name name' : Value → Option Item) (names : SameNames p name name') where
    field_same : (f g : Field) → SameField p f g → AllZip (SamePart p) (field_parts name f) (field_parts name' g)
    field_same f g (both_values v w h) = go (name v) (name' w) (names v w h) v w h
      where
        go : (o q : Option Item) → o ≡ q → (v w : Value) → SameValue p v w → AllZip (SamePart p) (unless_named o (value_parts v)) (unless_named q (value_parts w))
        go None None e v w (same_known c) = tt
        go None None e v w (same_object k i j h) = (both_objects k i j h, tt)
        go None (Some y) e v w h = absurd (cc)
        go (Some x) None e v w h = absurd (cc)
        go (Some x) (Some y) e v w h = tt
    field_same f g (both_of_cells i j h) = (both_cells i j h, tt)
    field_same f g (both_coroutines i j h) = (both_objects a_coroutine i j h, tt)

    parts_same : (inside inside' : ℕ → Bool) → SameInside p inside inside' → (o q : Part) → SamePart p o q → AllZip (SamePart p) (parts W name inside o) (parts X name' inside' q)
    parts_same inside inside' s o q h = zip_parts (SameField p) (SamePart p) (field_parts name) (field_parts name') field_same _ _ (fields_same inside inside' s o q h)

    visited_same : (inside inside' : ℕ → Bool) → SameInside p inside inside' → (vs ws : List Value) → SameValues p vs ws → AllZip (SamePart p) (visited W name inside vs) (visited X name' inside' ws)
    visited_same inside inside' s vs ws h =
        order_same same_part same_part (SamePart p) (part_same p a.one_to_one) (parts W name inside) (parts X name' inside') (parts_same inside inside' s) greatest_count _ _
        (zip_parts (SameValue p) (SamePart p) (λ v. field_parts name (of_value v)) (λ v. field_parts name' (of_value v)) (λ v w k. field_same _ _ (both_values v w k)) vs ws h)

    module _ (vs ws : List Value) (roots : SameValues p vs ws) where
      reached_same : SameInside p (is_reached W name vs) (is_reached X name' ws)
      reached_same =
          let none_inside : SameInside p (λ _. false) (λ _. false) = record { paired = λ co co' h. refl; first = λ co n. refl; second = λ co n. refl } in
          let z = visited_same (λ _. false) (λ _. false) none_inside vs ws roots in
          record {
            paired = λ co co' h. met_same same_part same_part (SamePart p) (part_same p a.one_to_one) _ _ _ _ z (both_objects a_coroutine co co' h);
            first = λ co n. met_paired p _ _ co z n;
            second = λ co n. met_second p _ _ co z n;
          }

      in_order : AllZip (SamePart p) (parts_in_order W name vs) (parts_in_order X name' ws)
      in_order = visited_same (is_reached W name vs) (is_reached X name' ws) reached_same vs ws roots

      abbrev N : Naming
      N = naming W name vs

      abbrev M : Naming
      M = naming X name' ws

      number_same : (o q : Part) → SamePart p o q → N.number o ≡ M.number q
      number_same o q h = ap (λ x. unwrap_or x 0) (place_same same_part same_part (SamePart p) (part_same p a.one_to_one) _ _ o q in_order h)

      item_same : (v w : Value) → SameValue p v w → item N v ≡ item M w
      item_same v w h = rw (names v w h) (ap (or_item (name' w)) (go v w h))
        where
          go : (v w : Value) → SameValue p v w → unnamed_item N v ≡ unnamed_item M w
          go v w (same_known c) = refl
          go v w (same_object k i j h) = ap numbered (number_same _ _ (both_objects k i j h))

      items_same : (us xs : List Value) → SameValues p us xs → map (item N) us ≡ map (item M) xs
      items_same = zip_equal (SameValue p) (item N) (item M) item_same

      record_of_table_same : (t u : Table) → SameTable p t u → record_of_table N t ≡ record_of_table M u
      record_of_table_same t u h =
          rw (
            zip_equal (SameRow p) (row_item N) (row_item M) (λ x y r. rw (item_same x.0 y.0 r.0, item_same x.1 y.1 r.1) refl) t.rows u.rows h.rows,
            item_same _ _ (metatable_same t.metatable u.metatable h.metatable),
          ) refl

      record_of_function_same : (f g : Function) → SameFunction p f g → record_of_function N f ≡ record_of_function M g
      record_of_function_same f g h = rw (h.code, zip_equal (SameCellNumber p) (λ c. N.number (a_cell c)) (λ c. M.number (a_cell c)) (λ i j k. number_same _ _ (both_cells i j k)) f.cells g.cells h.cells) refl

      wait_item_same : (u w : Wait Value) → SameWait p u w → wait_item N u ≡ wait_item M w
      wait_item_same u w (same_leaving x y h) = rw (item_same x y h) refl
      wait_item_same u w _ = refl

      option_same : (e f : Option Value) → Each (SameValue p) e f → option_map (item N) e ≡ option_map (item M) f
      option_same None None h = refl
      option_same None (Some f) h = absurd h
      option_same (Some e) None h = absurd h
      option_same (Some e) (Some f) h = ap Some (item_same e f h)

      lua_item_same : (x y : LuaFrame) → SameLuaFrame p x y → lua_frame_item N x ≡ lua_frame_item M y
      lua_item_same x y h =
          rw (item_same _ _ (same_object a_function x.function y.function h.function), h.own.pc, wait_item_same x.wait y.wait h.wait, items_same x.own.varargs y.own.varargs h.own.varargs, items_same x.own.registers y.own.registers h.own.registers, h.own.pending, h.own.opened) refl

      frame_item_same : (f g : Frame) → SameFrame p f g → frame_item N f ≡ frame_item M g
      frame_item_same f g (same_lua x y h) = ap lua_item (lua_item_same x y h)
      frame_item_same f g same_pcall = refl
      frame_item_same f g (same_xpcall x y h) = rw (item_same x y h) refl
      frame_item_same f g same_handler = refl
      frame_item_same f g (same_closing e e' us xs h k) = rw (option_same e e' h, items_same us xs k) refl

      record_of_coroutine_same : (c d : Coroutine) → SameCoroutine p c d → record_of_coroutine N c ≡ record_of_coroutine M d
      record_of_coroutine_same c d (same_fresh x y h) = rw (item_same x y h) refl
      record_of_coroutine_same c d (same_suspended fs gs h) = rw (zip_equal (SameFrame p) (frame_item N) (frame_item M) frame_item_same fs gs h) refl
      record_of_coroutine_same c d (same_in_progress fs gs h) = refl
      record_of_coroutine_same c d (same_normal fs gs h) = refl
      record_of_coroutine_same c d same_dead = refl
      record_of_coroutine_same c d (same_failed x y us xs h k) = rw (item_same x y h, items_same us xs k) refl

      loose_record : (Y : World) (P : ℕ → Type 0) (K : Naming) → ((co : ℕ) → (P co → ⊥) → K.inside co ≡ false) → (c : Cell) (v : Value) → Loose Y.coroutines P c v → record_of_cell K Y c ≡ closed_record (item K v)
      loose_record Y P K out c v (kept_closed w) = refl
      loose_record Y P K out c v (kept_apart co f r w n at) = rw (out co n, at) refl

      record_of_cell_same : (c d : Cell) → SameCell p W.coroutines X.coroutines c d → record_of_cell N W c ≡ record_of_cell M X d
      record_of_cell_same c d (same_place co co' f r h) =
          cond_rel (λ x y. x ≡ y) (N.inside co) (M.inside co') _ _ _ _ (reached_same.paired co co' h) (ap (λ n. open_record n f r) (number_same _ _ (both_objects a_coroutine co co' h))) (ap closed_record (item_same _ _ (present_same co co' f r h)))
      record_of_cell_same c d (same_content x y u w l m s) = loose_record W (IsFirst p) N reached_same.first x u l ∙ (ap closed_record (item_same u w s) ∙ sym (loose_record X (IsSecond p) M reached_same.second y w m))

      none_same : {A B : Type 0} (R : A → B → Type 0) (f : A → Record) (g : B → Record) → ((x : A) (y : B) → R x y → f x ≡ g y) → (o : Option A) (q : Option B) → Both R o q → or_none f o ≡ or_none g q
      none_same R f g h None q b = absurd b
      none_same R f g h (Some x) None b = absurd b
      none_same R f g h (Some x) (Some y) b = h x y b

      record_same : (o q : Part) → SamePart p o q → record_of N W o ≡ record_of M X q
      record_same o q (both_objects a_table i j h) = none_same (SameTable p) (record_of_table N) (record_of_table M) record_of_table_same _ _ (a.tables i j h)
      record_same o q (both_objects a_function i j h) = none_same (SameFunction p) (record_of_function N) (record_of_function M) record_of_function_same _ _ (a.functions i j h)
      record_same o q (both_objects a_coroutine i j h) = none_same (SameCoroutine p) (record_of_coroutine N) (record_of_coroutine M) record_of_coroutine_same _ _ (a.coroutines i j h)
      record_same o q (both_cells i j h) = none_same (SameCell p W.coroutines X.coroutines) (record_of_cell N W) (record_of_cell M X) record_of_cell_same _ _ (a.cells i j h)

      pub image_same : image_by W name vs ≡ image_by X name' ws
      image_same = rw (items_same vs ws roots, zip_equal (SamePart p) (record_of N W) (record_of M X) record_same _ _ in_order) refl

  named_same : SameNumber p a_table W.prelude_environment X.prelude_environment → (ps qs : List Perm) → AllZip (SamePerm p) ps qs → SameNames p (named W.prelude_environment ps) (named X.prelude_environment qs)
  named_same env ps qs h v w s =
      cond_rel (λ x y. x ≡ y) _ _ _ _ _ _ (equal_same p a.one_to_one _ v _ w (same_object a_table _ _ env) s) refl (rw (sort_same v w s, key_same ps qs h) refl)
    where
      sort_same : (v w : Value) → SameValue p v w → sort_of v ≡ sort_of w
      sort_same v w (same_known c) = refl
      sort_same v w (same_object k i j h) = refl

      key_same : (ps qs : List Perm) → AllZip (SamePerm p) ps qs → key_of ps v ≡ key_of qs w
      key_same [] [] h = refl
      key_same [] (y ∷ ys) h = absurd h
      key_same (x ∷ xs) [] h = absurd h
      key_same (x ∷ xs) (y ∷ ys) h = cond_rel (λ x y. x ≡ y) _ _ _ _ _ _ (equal_same p a.one_to_one x.object v y.object w h.0.object s) (ap Some h.0.key) (key_same xs ys h.1)

pub images_same : ImagesSame
images_same p W X ps qs vs ws a env perms roots =
    image_same p W X a (named W.prelude_environment ps) (named X.prelude_environment qs) (named_same p W X a env ps qs perms) vs ws roots

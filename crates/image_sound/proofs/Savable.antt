-- What a sound world reaches can be written.
use Rattle.std.proofs.Common.{arith, ℕ, suc, ◌<◌, ◌≡◌, List, [], ◌∷◌, ◌++◌, Option, Some, None, refl, subst, sym, ap, ◌∙◌, length, Bool, true, false, cond, map}
use Rattle.std.specs.Prelude.{slice_get, flat_map, unwrap_or}
use Rattle.std.proofs.lemmas.Option.{slice_get_within}
use Rattle.int_core.specs.Value.{nil, a_table, a_function, a_coroutine, Value, known, object, bind}
use Rattle.int_core.specs.Heap.{Table}
use Rattle.machine_core.specs.World.{Cell, closed, open_at, Wait, leaving, Frame, lua, pcall, xpcall, handler, closing, Coroutine, fresh, suspended, in_progress, normal, dead, failed, World, frames_of, lua_frame, register_at}
use Rattle.machine_sound.specs.Sound.{Each, Sizes, sizes, Valid, OptionOk, TableOk, FunctionOk, WaitOk, FrameOk, CoroutineOk, registers_in, registers_of, CellOk, Solid, apart, standing}
use Rattle.machine_sound.proofs.Lists.{get_there}
use Rattle.machine_sound.proofs.NewCoroutines.{coroutine_within}
use Rattle.image_core.specs.Visit.{IsMet, greatest_count}
use Rattle.image_core.specs.Image.{Item, open_record, closed_record}
use Rattle.image_core.specs.Records.{Part, an_object, a_cell, same_part, Field, of_value, of_cell, of_coroutine, row_fields, metatable_value, table_fields, wait_fields, error_fields, frame_fields, coroutine_fields, present, cell_fields, if_there, fields, value_parts, unless_named, field_parts, parts, is_reached, parts_in_order, Naming, naming, item, record_of_table, record_of_function, record_of_coroutine, record_of_cell, or_none}
use Rattle.image_core.specs.Loading.{kind_in, is_cell}
use Rattle.image_load.specs.Loads.{IsWritten}
use Rattle.image_core.proofs.Lists.{Every, every_get, every_both, place_met, place_get, order_within}
use Rattle.image_core.proofs.Parts.{part_tells, part_self}
use Rattle.image_sound.specs.Savable.{SavableIsWritten, OpenCellsThere}

-- an open cell's register is there, with a valid value
module _ (n : ℕ) (W : World) (s : Solid n W) where
  abbrev z : Sizes
  z = sizes n W

  frames_right : (c : Coroutine) (frames : List Frame) → CoroutineOk z c → frames_of c ≡ Some frames → Each (FrameOk z) frames
  frames_right (fresh b) frames h e = absurd (cc)
  frames_right (suspended fs) frames h e = subst (λ fs. Each (FrameOk z) fs) (some_so e) h.right.each
    where
      some_so : Some fs ≡ Some frames → fs ≡ frames
      some_so e = cc
  frames_right (in_progress fs) frames h e = subst (λ fs. Each (FrameOk z) fs) (some_so e) h.each
    where
      some_so : Some fs ≡ Some frames → fs ≡ frames
      some_so e = cc
  frames_right (normal fs) frames h e = subst (λ fs. Each (FrameOk z) fs) (some_so e) h.right.each
    where
      some_so : Some fs ≡ Some frames → fs ≡ frames
      some_so e = cc
  frames_right dead frames h e = absurd (cc)
  frames_right (failed e' vs) frames h e = absurd (cc)

  abbrev There : ℕ → ℕ → ℕ → Type 0
  There co g r = (v : Value) × (register_at W.coroutines co g r ≡ Some v) × Valid z v

  register_there : (co g r : ℕ) → r < registers_of W.coroutines co g → There co g r
  register_there co g r h = by_coroutine (slice_get W.coroutines co) refl h
    where
      by_coroutine : (o : Option Coroutine) → slice_get W.coroutines co ≡ o → r < elim (bind o frames_of) [ None ↦ 0 | Some frames ↦ registers_in frames g ] → There co g r
      by_coroutine None e h = absurd (omega (arith, h))
      by_coroutine (Some c) e h = by_frames (frames_of c) refl h
        where
          by_frames : (o : Option (List Frame)) → frames_of c ≡ o → r < elim o [ None ↦ 0 | Some frames ↦ registers_in frames g ] → There co g r
          by_frames None f h = absurd (omega (arith, h))
          by_frames (Some frames) f h = by_frame (slice_get frames g) refl h
            where
              right : Each (FrameOk z) frames
              right = frames_right c frames (s.coroutines co c e) f

              by_frame : (o : Option Frame) → slice_get frames g ≡ o → r < elim (bind o lua_frame) [ None ↦ 0 | Some l ↦ length l.own.registers ] → There co g r
              by_frame (Some (lua l)) k h =
                  let v = get_there l.own.registers r h in
                  let a : bind (slice_get W.coroutines co) frames_of ≡ Some frames = ap (λ o. bind o frames_of) e ∙ f in
                  let ok = right g (lua l) k in (
                    v.0,
                    ap (λ o. bind o (λ frames. bind (bind (slice_get frames g) lua_frame) (λ x. slice_get x.own.registers r))) a ∙ (ap (λ o. bind (bind o lua_frame) (λ x. slice_get x.own.registers r)) k ∙ v.1),
                    ok.registers r v.0 v.1,
                  )
              by_frame _ k h = absurd (omega (arith, h))

  -- values, cells and coroutines that an object names are there
  abbrev pub FieldOk : Field → Type 0
  FieldOk (of_value v) = Valid (sizes n W) v
  FieldOk (of_cell c) = c < length W.cells
  FieldOk (of_coroutine co) = co < length W.coroutines

  pub values_ok : (vs : List Value) → Each (Valid z) vs → Every FieldOk (map of_value vs)
  values_ok [] h = tt
  values_ok (v ∷ vs) h = (h 0 v refl, values_ok vs (λ i x e. h (suc i) x e))

  rows_ok : (rows : List (Value × Value)) → Each (λ row. Valid z row.0 × Valid z row.1) rows → Every FieldOk (flat_map row_fields rows)
  rows_ok [] h = tt
  rows_ok (row ∷ rows) h = let k = h 0 row refl in (k.0, (k.1, rows_ok rows (λ i x e. h (suc i) x e)))

  metatable_ok : (m : Option ℕ) → OptionOk (λ m. m < z.tables) m → Valid z (metatable_value m)
  metatable_ok None h = tt
  metatable_ok (Some m) h = h

  table_ok : (t : Table) → TableOk z t → Every FieldOk (table_fields t)
  table_ok t h = every_both FieldOk (flat_map row_fields t.rows) (of_value (metatable_value t.metatable) ∷ []) (rows_ok t.rows h.rows) (metatable_ok t.metatable h.metatable, tt)

  cells_ok : (cs : List ℕ) → Each (λ c. c < z.cells) cs → Every FieldOk (map of_cell cs)
  cells_ok [] h = tt
  cells_ok (c ∷ cs) h = (h 0 c refl, cells_ok cs (λ i x e. h (suc i) x e))

  wait_ok : (w : Wait Value) → WaitOk z w → Every FieldOk (wait_fields w)
  wait_ok (leaving e) h = (h, tt)
  wait_ok _ h = tt

  error_ok : (e : Option Value) → OptionOk (Valid z) e → Every FieldOk (error_fields e)
  error_ok None h = tt
  error_ok (Some e) h = (h, tt)

  frame_ok : (f : Frame) → FrameOk z f → Every FieldOk (frame_fields f)
  frame_ok (lua f) h = (
    slice_get_within W.functions f.function h.function h.there,
    every_both FieldOk (map of_value f.own.varargs) (map of_value f.own.registers ++ wait_fields f.wait) (values_ok f.own.varargs h.varargs) (every_both FieldOk (map of_value f.own.registers) (wait_fields f.wait) (values_ok f.own.registers h.registers) (wait_ok f.wait h.error)),
  )
  frame_ok pcall h = tt
  frame_ok (xpcall v) h = (h, tt)
  frame_ok handler h = tt
  frame_ok (closing e left) h = every_both FieldOk (error_fields e) (map of_value left) (error_ok e h.0) (values_ok left h.1)

  frames_ok : (fs : List Frame) → Each (FrameOk z) fs → Every FieldOk (flat_map frame_fields fs)
  frames_ok [] h = tt
  frames_ok (f ∷ fs) h = every_both FieldOk (frame_fields f) (flat_map frame_fields fs) (frame_ok f (h 0 f refl)) (frames_ok fs (λ i x e. h (suc i) x e))

  coroutine_ok : (c : Coroutine) → CoroutineOk z c → Every FieldOk (coroutine_fields c)
  coroutine_ok (fresh b) h = (h.0, tt)
  coroutine_ok (suspended fs) h = frames_ok fs h.right.each
  coroutine_ok (in_progress fs) h = tt
  coroutine_ok (normal fs) h = tt
  coroutine_ok dead h = tt
  coroutine_ok (failed e vs) h = (h.0, values_ok vs h.1)

  cell_ok : (inside : ℕ → Bool) (c : Cell) → CellOk z W.coroutines c → Every FieldOk (cell_fields W inside c)
  cell_ok inside (closed v) h = (h, tt)
  cell_ok inside (open_at co g r) h = go (inside co)
    where
      there : There co g r
      there = register_there co g r h

      go : (b : Bool) → Every FieldOk (cond b (of_coroutine co ∷ []) (of_value (present W (open_at co g r)) ∷ []))
      go true = (coroutine_within W.coroutines co g r h, tt)
      go false = (subst (Valid z) (sym (ap (λ o. unwrap_or o (known nil)) there.1)) there.2, tt)

  there_ok : {A : Type 0} (xs : List A) (P : A → Type 0) (f : A → List Field) → Each P xs → ((x : A) → P x → Every FieldOk (f x)) → (m : ℕ) → Every FieldOk (if_there f (slice_get xs m))
  there_ok xs P f h k m = go (slice_get xs m) refl
    where
      go : (o : Option _) → slice_get xs m ≡ o → Every FieldOk (if_there f o)
      go None e = tt
      go (Some x) e = k x (h m x e)

  pub fields_ok : (inside : ℕ → Bool) (o : Part) → Every FieldOk (fields W inside o)
  fields_ok inside (an_object a_table m) = there_ok W.heap.tables (TableOk z) table_fields s.tables table_ok m
  fields_ok inside (an_object a_function m) = there_ok W.functions (FunctionOk z) (λ f. map of_cell f.cells) s.functions (λ f h. cells_ok f.cells h.cells) m
  fields_ok inside (an_object a_coroutine m) = there_ok W.coroutines (CoroutineOk z) coroutine_fields s.coroutines coroutine_ok m
  fields_ok inside (a_cell m) = there_ok W.cells (CellOk z W.coroutines) (cell_fields W inside) s.cells (cell_ok inside) m

  module _ (name : Value → Option Item) (roots : List Value) (roots_there : Each (Valid z) roots) where
    abbrev Exists : Part → Type 0
    Exists (an_object a_table m) = m < length W.heap.tables
    Exists (an_object a_function m) = m < length W.functions
    Exists (an_object a_coroutine m) = m < length W.coroutines
    Exists (a_cell m) = m < length W.cells

    value_exists : (v : Value) → Valid z v → Every Exists (value_parts v)
    value_exists (known p) h = tt
    value_exists (object a_table m) h = (h, tt)
    value_exists (object a_function m) h = (h, tt)
    value_exists (object a_coroutine m) h = (h, tt)

    field_exists : (f : Field) → FieldOk f → Every Exists (field_parts name f)
    field_exists (of_value v) h = go (name v)
      where
        go : (o : Option Item) → Every Exists (unless_named o (value_parts v))
        go None = value_exists v h
        go (Some i) = tt
    field_exists (of_cell c) h = (h, tt)
    field_exists (of_coroutine co) h = (h, tt)

    all_exist : (fs : List Field) → Every FieldOk fs → Every Exists (flat_map (field_parts name) fs)
    all_exist [] h = tt
    all_exist (f ∷ fs) h = every_both Exists (field_parts name f) (flat_map (field_parts name) fs) (field_exists f h.0) (all_exist fs h.1)

    roots_exist : (vs : List Value) → Each (Valid z) vs → Every Exists (flat_map (λ v. field_parts name (of_value v)) vs)
    roots_exist [] h = tt
    roots_exist (v ∷ vs) h = every_both Exists (field_parts name (of_value v)) (flat_map (λ v. field_parts name (of_value v)) vs) (field_exists (of_value v) (h 0 v refl)) (roots_exist vs (λ i x e. h (suc i) x e))

    -- all that is met is there
    met_exists : (o : Part) → IsMet same_part (parts_in_order W name roots) o → Exists o
    met_exists o m =
        let r = place_met same_part part_tells (parts_in_order W name roots) o m in
        every_get Exists (parts_in_order W name roots) r.0 o
        (order_within same_part part_tells part_self Exists (parts W name (is_reached W name roots)) (λ o h. all_exist (fields W (is_reached W name roots) o) (fields_ok (is_reached W name roots) o)) greatest_count (flat_map (λ v. field_parts name (of_value v)) roots) (roots_exist roots roots_there))
        (place_get same_part part_tells (parts_in_order W name roots) o r.0 r.1)

    abbrev N : Naming
    N = naming W name roots

    kind_of_coroutine : (c : Coroutine) → standing c ≡ apart → kind_in (record_of_coroutine N c) ≡ Some a_coroutine
    kind_of_coroutine (in_progress fs) h = absurd (cc)
    kind_of_coroutine (normal fs) h = absurd (cc)
    kind_of_coroutine _ h = refl

    cell_of : (c : Cell) → is_cell (record_of_cell N W c) ≡ true
    cell_of (closed v) = refl
    cell_of (open_at co g r) = go (N.inside co)
      where
        go : (b : Bool) → is_cell (cond b (open_record (N.number (an_object a_coroutine co)) g r) (closed_record (item N (present W (open_at co g r))))) ≡ true
        go true = refl
        go false = refl

    written : ((co : ℕ) (c : Coroutine) → IsMet same_part (parts_in_order W name roots) (an_object a_coroutine co) → slice_get W.coroutines co ≡ Some c → standing c ≡ apart) → (o : Part) → IsMet same_part (parts_in_order W name roots) o → IsWritten W name roots o
    written idle (an_object a_table m) h = let t = get_there W.heap.tables m (met_exists (an_object a_table m) h) in ap (λ o. kind_in (or_none (record_of_table N) o)) t.1
    written idle (an_object a_function m) h = let t = get_there W.functions m (met_exists (an_object a_function m) h) in ap (λ o. kind_in (or_none (record_of_function N) o)) t.1
    written idle (an_object a_coroutine m) h = let t = get_there W.coroutines m (met_exists (an_object a_coroutine m) h) in ap (λ o. kind_in (or_none (record_of_coroutine N) o)) t.1 ∙ kind_of_coroutine t.0 (idle m t.0 h t.1)
    written idle (a_cell m) h = let t = get_there W.cells m (met_exists (a_cell m) h) in ap (λ o. is_cell (or_none (record_of_cell N W) o)) t.1 ∙ cell_of t.0

pub savable_is_written : SavableIsWritten
savable_is_written n W name roots s = written n W s.solid name roots s.roots_there s.idle

pub open_cells_there : OpenCellsThere
open_cells_there n W s m co g r e = register_there n W s co g r (s.cells m (open_at co g r) e)

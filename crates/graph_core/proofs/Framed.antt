-- What frames name; registers that are nil name nothing.
use Rattle.std.proofs.Common.{◌≡◌, ℕ, zero, suc, ◌+◌, ◌<◌, List, [], ◌∷◌, ◌++◌, length, map, take, Bool, true, false, cond, Option, Some, None, refl, sym, ap, ◌∙◌, subst, arith}
use Rattle.std.specs.Prelude.{flat_map, slice_get, unwrap_or}
use Rattle.std.specs.Option.{option_map}
use Rattle.std.proofs.lemmas.Grind.{flat_map-append}
use Rattle.list_laws.proofs.Items.{append_nil, some_same}
use Rattle.int_core.specs.Value.{nil, Value, known, bind, a_function}
use Rattle.machine_core.specs.World.{World, read_cell}
use Rattle.table_core.specs.declared.value.CellId.{CellId}
use Rattle.table_core.specs.declared.value.TableId.{TableId}
use Rattle.table_core.specs.declared.value.Value.{Value as Kept}
use Rattle.table_core.specs.declared.value.Value.TheVariants.{Func}
use Rattle.table_core.specs.Table.{Contents}
use Rattle.image_core.specs.Records.{Field, Part, of_value, of_cell, a_cell, an_object, field_parts, fields, if_there, row_fields, metatable_value, table_fields, cell_fields, present, wait_fields, error_fields, frame_fields, of_coroutine}
use Rattle.lua_stack.specs.declared.views.LuaView.{LuaView}
use Rattle.lua_stack.specs.Frames.{KeptFrame, kept_lua, kept_closing, wait_of, error_of, frame_of}
use Rattle.lua_stack.specs.Reading.{viewed_lua}
use Rattle.lua_stack.specs.View.{blank}
use Rattle.lua_stack.proofs.Pushed.{get_map}
use Rattle.lua_heap.specs.declared.world.Cell.{Cell}
use Rattle.lua_heap.specs.declared.world.Cell.TheVariants.{Closed, Open}
use Rattle.lua_heap.specs.declared.world.Func.{Func as Function}
use Rattle.lua_heap.specs.Changes.{value_in}
use Rattle.lua_heap.specs.Codes.{functions}
use Rattle.lua_heap.specs.Plain.{plain, cell, function, table}
use Rattle.lua_heap.specs.Reading.{value, row}
use Rattle.graph_core.specs.declared.object.Object.{Object}
use Rattle.graph_core.specs.declared.object.Sort.TheVariants.{Coro}
use Rattle.graph_core.specs.declared.walk.Walk.{Walk}
use Rattle.graph_core.specs.Cells.{outer}
use Rattle.graph_core.specs.Frames.{fields_of, fields_at}
use Rattle.graph_core.specs.Objects.{Meets}
use Rattle.graph_core.specs.Walk.{MeetsFields, name_in, inside_in, texts_in, value_field}
use Rattle.graph_core.proofs.Meeting.{map_more, singles, map_twice, flat_twice, one_more, fields_as, fields_both}
use Rattle.graph_core.proofs.Named.{no_parts}

-- values one by one are the values of a list
pub listed : (w : Walk) (vs : List Kept) → flat_map (λ v. value_field w v ∷ []) vs ≡ map of_value (map (value (texts_in w)) vs)
listed w vs = singles (value_field w) vs ∙ sym (map_twice of_value (value (texts_in w)) vs)

nils : (w : Walk) (n : ℕ) → flat_map (field_parts (name_in w)) (map of_value (map (value (texts_in w)) (blank n))) ≡ []
nils w zero = refl
nils w (suc n) = ap (λ l. l ++ flat_map (field_parts (name_in w)) (map of_value (map (value (texts_in w)) (blank n)))) (no_parts (name_in w (known nil))) ∙ nils w n

pub with_nils : (w : Walk) (a b : List Object) (vs : List Kept) (n : ℕ) → MeetsFields w a b (map of_value (map (value (texts_in w)) vs)) → MeetsFields w a b (map of_value (map (value (texts_in w)) (vs ++ blank n)))
with_nils w a b vs n h =
    let F = field_parts (name_in w) in
    let T = texts_in w in
    subst (λ ps. Meets a b ps)
    (sym (ap (λ l. flat_map F l) (ap (map of_value) (map_more (value T) vs (blank n)) ∙ map_more of_value (map (value T) vs) (map (value T) (blank n)))
    ∙ flat_map-append F (map of_value (map (value T) vs)) (map of_value (map (value T) (blank n)))
    ∙ ap (λ l. flat_map F (map of_value (map (value T) vs)) ++ l) (nils w n) ∙ append_nil _)) h

-- roots

abbrev pub one_by_one : Walk → List Kept → List Part
one_by_one w vs = flat_map (field_parts (name_in w)) (flat_map (λ v. value_field w v ∷ []) vs)

pub roots_met : (w : Walk) (vs : List Kept) → one_by_one w vs ≡ flat_map (λ v. field_parts (name_in w) (of_value v)) (map (value (texts_in w)) vs)
roots_met w vs =
    let F = field_parts (name_in w) in
    ap (flat_map F) (singles (value_field w) vs) ∙ (flat_twice F (value_field w) vs ∙ sym (flat_twice (λ v. F (of_value v)) (value (texts_in w)) vs))

-- what is there

there_at : {A B : Type 0} (G : B → List Field) (H : A → B) (xs : List A) (n : ℕ) (x : A) → slice_get xs n ≡ Some x → G (H x) ≡ if_there G (slice_get (map H xs) n)
there_at G H xs n x g = sym (ap (if_there G) (get_map H xs n ∙ ap (option_map H) g))

pub function_met : (w : Walk) (fuel n : ℕ) (f : Function) (cs : List CellId) → slice_get w.world.now.funcs.objects n ≡ Some f → cs ≡ f.cells.items
    → flat_map (λ (id : CellId). of_cell id.0 ∷ []) cs ≡ fields (plain w.world.now fuel) (inside_in w) (an_object a_function n)
function_met w fuel n f cs g e =
    singles (λ (id : CellId). of_cell id.0) cs ∙ (sym (map_twice of_cell (λ (id : CellId). id.0) cs) ∙ (ap (λ l. map of_cell (map (λ (id : CellId). id.0) l)) e
    ∙ there_at (λ f. map of_cell f.cells) (function (functions w.world.now.codes)) w.world.now.funcs.objects n f g))

value_of_cell : (W : World) (inside : ℕ → Bool) (texts : List (List ℕ)) (k : Cell) (v : Value) → None ≡ outer inside k → read_cell W (cell texts k) ≡ Some v → of_value v ∷ [] ≡ cell_fields W inside (cell texts k)
value_of_cell W inside texts (Closed u) v o h = ap (λ v. of_value v ∷ []) (sym (some_same (value texts u) v h))
value_of_cell W inside texts (Open co frame register) v o h = go (inside co.0) o
  where
    go : (b : Bool) → ◌≡◌ {A = Option Object} None (cond b (Some (record { sort = Coro; number = co.0 })) None) → of_value v ∷ [] ≡ cond b (of_coroutine co.0 ∷ []) (of_value (present W (cell texts (Open co frame register))) ∷ [])
    go true o = absurd (cc)
    go false o = ap (λ r. of_value (unwrap_or r (known nil)) ∷ []) (sym h)

pub cell_met : (w : Walk) (fuel n : ℕ) (k : Cell) (v : Kept) → slice_get w.world.now.cells.objects n ≡ Some k → None ≡ outer (inside_in w) k → value_in (plain w.world.now fuel) n ≡ Some (value (texts_in w) v)
    → value_field w v ∷ [] ≡ fields (plain w.world.now fuel) (inside_in w) (a_cell n)
cell_met w fuel n k v g o h =
    let W = plain w.world.now fuel in
    let H = cell (texts_in w) in
    let there = get_map H w.world.now.cells.objects n ∙ ap (option_map H) g in
    value_of_cell W (inside_in w) (texts_in w) k (value (texts_in w) v) o (sym (ap (λ r. bind r (read_cell W)) there) ∙ h)
    ∙ there_at (cell_fields W (inside_in w)) H w.world.now.cells.objects n k g

-- tables

pub table_met : (w : Walk) (t : Contents) (m : Option TableId) (v : Kept) (a b c : List Object) → m ≡ t.metatable → value (texts_in w) v ≡ metatable_value (option_map (λ (id : TableId). id.0) m)
    → MeetsFields w a b (flat_map (λ r. row_fields (row (texts_in w) r)) t.rows) → MeetsFields w b c (value_field w v ∷ []) → MeetsFields w a c (table_fields (table (texts_in w) t))
table_met w t m v a b c e f h k =
    let T = texts_in w in
    fields_both w a b c (flat_map row_fields (map (row T) t.rows)) (of_value (metatable_value (option_map (λ (id : TableId). id.0) t.metatable)) ∷ [])
    (fields_as w a b (flat_map (λ r. row_fields (row T r)) t.rows) (flat_map row_fields (map (row T) t.rows)) (sym (flat_twice row_fields (row T) t.rows)) h)
    (fields_as w b c (value_field w v ∷ []) (of_value (metatable_value (option_map (λ (id : TableId). id.0) t.metatable)) ∷ [])
    (ap (λ v. of_value v ∷ []) (f ∙ ap (λ (m : Option TableId). metatable_value (option_map (λ (id : TableId). id.0) m)) e)) k)

-- frames

error_same : (f : Kept → Value) (e : Option Kept) → error_fields (option_map f e) ≡ error_fields (error_of f e)
error_same f None = refl
error_same f (Some e) = refl

pub closing_met : (w : Walk) (e : Option Kept) (left : List Kept) (a b c : List Object) → MeetsFields w a b (error_fields (option_map (value (texts_in w)) e))
    → MeetsFields w b c (flat_map (λ v. value_field w v ∷ []) left) → MeetsFields w a c (fields_of (texts_in w) (kept_closing e left))
closing_met w e left a b c h k =
    let T = texts_in w in
    fields_both w a b c (error_fields (error_of (value T) e)) (map of_value (map (value T) left))
    (fields_as w a b (error_fields (option_map (value T) e)) (error_fields (error_of (value T) e)) (error_same (value T) e) h)
    (fields_as w b c (flat_map (λ v. value_field w v ∷ []) left) (map of_value (map (value T) left)) (listed w left) k)

pub lua_met : (w : Walk) (v : LuaView) (a b c d e : List Object) → MeetsFields w a b (value_field w (Func v.function) ∷ []) → MeetsFields w b c (flat_map (λ x. value_field w x ∷ []) v.varargs.now)
    → MeetsFields w c d (flat_map (λ x. value_field w x ∷ []) v.registers.now) → MeetsFields w d e (wait_fields (wait_of (value (texts_in w)) v.wait)) → MeetsFields w a e (fields_of (texts_in w) (kept_lua (viewed_lua v)))
lua_met w v a b c d e h k l m =
    let T = texts_in w in
    let xs = map of_value (map (value T) v.varargs.now) in
    let rs = map of_value (map (value T) (v.registers.now ++ blank v.nils)) in
    let es = wait_fields (wait_of (value T) v.wait) in
    fields_both w a b e (value_field w (Func v.function) ∷ []) (xs ++ (rs ++ es)) h
    (fields_both w b c e xs (rs ++ es) (fields_as w b c (flat_map (λ x. value_field w x ∷ []) v.varargs.now) xs (listed w v.varargs.now) k)
    (fields_both w c d e rs es
    (with_nils w c d v.registers.now v.nils (fields_as w c d (flat_map (λ x. value_field w x ∷ []) v.registers.now) (map of_value (map (value T) v.registers.now)) (listed w v.registers.now) l)) m))

pub not_there : {A : Type 0} (xs : List A) (n : ℕ) → n < length xs → slice_get xs n ≡ None → ⊥
not_there [] n l e = absurd (omega arith)
not_there (x ∷ xs) zero l e = absurd (cc)
not_there (x ∷ xs) (suc n) l e = not_there xs n (omega arith) e

abbrev pub fields_before : Walk → ℕ → List KeptFrame → List Field
fields_before w n fs = flat_map frame_fields (map (frame_of (value (texts_in w))) (take n fs))

one_frame_more : (w : Walk) (a b c : List Object) (n : ℕ) (fs : List KeptFrame) (f : KeptFrame) → slice_get fs n ≡ Some f → MeetsFields w a b (fields_before w n fs) → MeetsFields w b c (fields_of (texts_in w) f)
    → MeetsFields w a c (fields_before w (n + 1) fs)
one_frame_more w a b c n fs f g h k =
    let G = frame_of (value (texts_in w)) in
    fields_as w a c (flat_map (fields_of (texts_in w)) (take (n + 1) fs)) (fields_before w (n + 1) fs) (sym (flat_twice frame_fields G (take (n + 1) fs)))
    (one_more w (fields_of (texts_in w)) a b c n fs f g (fields_as w a b (fields_before w n fs) (flat_map (fields_of (texts_in w)) (take n fs)) (flat_twice frame_fields G (take n fs)) h) k)

pub next_frame : (w : Walk) (a b c : List Object) (n : ℕ) (fs : List KeptFrame) → n < length fs → MeetsFields w a b (fields_before w n fs) → MeetsFields w b c (fields_at (texts_in w) fs n)
    → MeetsFields w a c (fields_before w (n + 1) fs)
next_frame w a b c n fs l h k = go (slice_get fs n) refl k
  where
    go : (o : Option KeptFrame) → slice_get fs n ≡ o → MeetsFields w b c (elim o [ None ↦ [] | Some f ↦ fields_of (texts_in w) f ]) → MeetsFields w a c (fields_before w (n + 1) fs)
    go None e k = absurd (not_there fs n l e)
    go (Some f) e k = one_frame_more w a b c n fs f e h k

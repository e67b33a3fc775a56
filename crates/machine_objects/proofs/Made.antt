-- Functions that are made, and the lists of cells that they capture.
use Rattle.std.proofs.Common.{◌≡◌, ℕ, zero, suc, ◌+◌, ◌-◌, List, [], ◌∷◌, ◌++◌, length, Option, Some, refl, ap, sym, ◌∙◌, Bool, true, take, arith}
use Rattle.std.specs.Prelude.{cond, map, slice_get}
use Rattle.std.proofs.lemmas.List.{length-map, map-append, take_all}
use Rattle.code_core.specs.declared.proto.UpDesc.{UpDesc}
use Rattle.code_core.specs.Prototype.{Prototype, list_of}
use Rattle.int_core.specs.Value.{Value, object, a_function, bind, last}
use Rattle.machine_core.specs.World.{Function, Cell, LuaFrame, lua_frame, lua, World, Stack, stack_of, Place, place_of, find_open}
use Rattle.machine_core.specs.Text.{make_function}
use Rattle.machine_core.specs.Moves.{Made, made, outside, do_outside, captured, made_function}
use Rattle.machine_sound.proofs.Lists.{bind_at, bind_some, get_push_old, get_within, some_is}
use Rattle.table_core.specs.declared.value.CellId.{CellId}
use Rattle.table_core.specs.declared.value.ProtoId.{ProtoId}
use Rattle.table_core.specs.declared.value.FuncId.{FuncId}
use Rattle.lua_heap.specs.declared.world.Func.{Func}
use Rattle.lua_heap.specs.declared.world.World.{World as Memory}
use Rattle.lua_heap.specs.Changes.{AddsFunction, with_function}
use Rattle.lua_heap.specs.Codes.{functions, prototype_at, code_or_none}
use Rattle.lua_heap.specs.Plain.{plain, function}
use Rattle.move_laws.specs.Memory.{Makes, StandsAt}
use Rattle.move_laws.proofs.Places.{place_is}
use Rattle.machine_objects.specs.Opening.{upvalues_at}
use Rattle.machine_objects.specs.Objects.{CanCapture, CanMake, AreCaptured, HasCell, IsCell, IsInner, cell_for, cells_for}

module _ (co frame : ℕ) (outer : List ℕ) (cells : List Cell) where
  abbrev own_cell : UpDesc → Option ℕ
  own_cell u = cond u.in_stack (find_open co frame u.index cells) (slice_get outer u.index)

  abbrev all_of : List UpDesc → Option (List ℕ)
  all_of us = captured us co frame outer cells

  -- the cell of each upvalue is there
  pub captured_each : (us : List UpDesc) (cs : List ℕ) → captured us co frame outer cells ≡ Some cs → (i : ℕ) (u : UpDesc) → slice_get us i ≡ Some u
      → (c : ℕ) × (cond u.in_stack (find_open co frame u.index cells) (slice_get outer u.index) ≡ Some c)
  captured_each [] cs e i u g = absurd (cc)
  captured_each (v ∷ us) cs e zero u g =
      let a = bind_some (λ c. bind (all_of us) (λ cs. Some (c ∷ cs))) (own_cell v) cs e in
      (a.0, ap own_cell (sym (some_is {o = Some v} refl g)) ∙ a.1)
  captured_each (v ∷ us) cs e (suc i) u g =
      let a = bind_some (λ c. bind (all_of us) (λ cs. Some (c ∷ cs))) (own_cell v) cs e in
      let b = bind_some (λ cs. Some (a.0 ∷ cs)) (all_of us) cs a.2 in
      captured_each us b.0 b.1 i u g

  -- one more
  pub captured_more : (us : List UpDesc) (u : UpDesc) (xs : List ℕ) (c : ℕ) → captured us co frame outer cells ≡ Some xs → cond u.in_stack (find_open co frame u.index cells) (slice_get outer u.index) ≡ Some c
      → captured (us ++ u ∷ []) co frame outer cells ≡ Some (xs ++ c ∷ [])
  captured_more [] u xs c e h = bind_at (λ c. Some (c ∷ [])) (own_cell u) c h ∙ ap (λ (xs : List ℕ). Some (xs ++ c ∷ [])) (some_is {o = Some []} refl e)
  captured_more (v ∷ us) u xs c e h =
      let a = bind_some (λ c. bind (all_of us) (λ cs. Some (c ∷ cs))) (own_cell v) xs e in
      let b = bind_some (λ cs. Some (a.0 ∷ cs)) (all_of us) xs a.2 in
      bind_at (λ d. bind (all_of (us ++ u ∷ [])) (λ cs. Some (d ∷ cs))) (own_cell v) a.0 a.1
      ∙ bind_at (λ cs. Some (a.0 ∷ cs)) (all_of (us ++ u ∷ [])) (b.0 ++ c ∷ []) (captured_more us u b.0 c b.1 h)
      ∙ ap (λ (xs : List ℕ). Some (xs ++ c ∷ [])) (some_is {o = Some (a.0 ∷ b.0)} refl b.2)

-- a new function changes no place

abbrev place_with : Stack → LuaFrame → Function → Place
place_with s top f = record { stack = s; number = length s.frames - 1; top = top; function = f }

abbrev numbered : ℕ → Place → Place
numbered n p = record p { number = n }

pub place_more : (W : World) (g : Function) (at : Place) → place_of W ≡ Some at → place_of (with_function g W) ≡ Some at
place_more W g at e =
    let p = place_is W at e in
    let fs = W.functions ++ g ∷ [] in
    bind_at (λ s. bind {B = Place} (bind (last s.frames) lua_frame) (λ top. bind {B = Place} (slice_get fs top.function) (λ f. Some (place_with s top f)))) (stack_of W) at.stack p.stack
    ∙ bind_at (λ top. bind {B = Place} (slice_get fs top.function) (λ f. Some (place_with at.stack top f))) (bind (last at.stack.frames) lua_frame) at.top (bind_at lua_frame (last at.stack.frames) (lua at.top) p.top)
    ∙ bind_at (λ f. Some (place_with at.stack at.top f)) (slice_get fs at.top.function) at.function (get_push_old W.functions (g ∷ []) at.top.function at.function p.function)
    ∙ ap (λ n. Some (numbered n at)) (sym p.number)

abbrev function_of : Prototype → List ℕ → Function
function_of code cells = record { code = code; cells = cells }

abbrev with_new : World → Prototype → List ℕ → ℕ → Option (Made Bool)
with_new W code cells n = made (record W { functions = W.functions ++ function_of code cells ∷ [] }) (object a_function n ∷ []) true

pub function_made : (old new : Memory) (inner : ℕ) (f : Func) (id : FuncId) (env : List Value) (h : CanMake old inner) → IsInner old inner f.code → AreCaptured old f.code f.cells.items → id.0 ≡ length old.funcs.objects → AddsFunction old new f
    → Makes old new (outside (make_function inner)) env (object a_function id.0 ∷ []) true
function_made old new inner f id env h i k n a = record {
  is = λ fuel.
      let V = plain old fuel in
      let at = h.place in
      let number : length V.functions ≡ id.0 = length-map old.funcs.objects (function (functions old.codes)) ∙ sym n in
      let p : slice_get (functions old.codes) f.code.0 ≡ Some h.code = i.same ∙ ap (λ (p : Place). slice_get (list_of p.function.code.inner) inner) (some_is i.is h.is) ∙ h.there in
      let code : prototype_at (functions old.codes) f.code.0 ≡ h.code = ap code_or_none p in
      let own : cells_for old at h.code.own.upvalues ≡ Some (map (λ (c : CellId). c.0) f.cells.items) =
      ap (λ (q : Prototype). cells_for old at q.own.upvalues) (sym code) ∙ ap (λ (p : Place). cells_for old p (prototype_at (functions old.codes) f.code.0).own.upvalues) (some_is h.is k.is) ∙ k.captured in
      bind_at (do_outside (make_function inner) env V) (place_of V) at h.is
      ∙ bind_at (λ (q : Prototype). bind (captured q.own.upvalues at.stack.coroutine at.number at.function.cells V.cells) (λ cells. made_function V at q cells)) (slice_get (list_of at.function.code.inner) inner) h.code h.there
      ∙ bind_at (λ cells. made_function V at h.code cells) (captured h.code.own.upvalues at.stack.coroutine at.number at.function.cells V.cells) (map (λ (c : CellId). c.0) f.cells.items) own
      ∙ ap (λ m. with_new V h.code (map (λ (c : CellId). c.0) f.cells.items) m) number
      ∙ ap (λ (q : Prototype). with_new V q (map (λ (c : CellId). c.0) f.cells.items) id.0) (sym code)
      ∙ ap (λ W. made W (object a_function id.0 ∷ []) true) (sym (a.plain fuel));
}

pub function_stands : (old new : Memory) (f : Func) (pc : ℕ) → AddsFunction old new f → StandsAt old pc → StandsAt new pc
function_stands old new f pc a s = record {
  place = s.place;
  is = ap place_of (a.plain 0) ∙ place_more (plain old 0) (function (functions old.codes) f) s.place s.is;
  at = s.at;
}

-- cells that are captured one after another

pub taken_one : {A : Type 0} (xs : List A) (i : ℕ) (x : A) → slice_get xs i ≡ Some x → take (i + 1) xs ≡ take i xs ++ x ∷ []
taken_one [] i x e = absurd (cc)
taken_one (y ∷ xs) zero x e = ap (λ y. y ∷ []) (some_is {o = Some y} refl e)
taken_one (y ∷ xs) (suc i) x e =
    let k : suc i + 1 ≡ suc (i + 1) = omega arith in
    ap (λ n. take n (y ∷ xs)) k ∙ ap (λ l. y ∷ l) (taken_one xs i x e)

pub has_cell : (W : Memory) (id : ProtoId) (us : List UpDesc) (i : ℕ) (u : UpDesc) (h : CanCapture W id) → us ≡ (prototype_at (functions W.codes) id.0).own.upvalues → slice_get us i ≡ Some u → HasCell W u
has_cell W id us i u h e g =
    let p = h.place in
    let f = captured_each p.stack.coroutine p.number p.function.cells (plain W 0).cells us h.cells (ap (cells_for W p) e ∙ h.captured) i u g in
    record { place = p; is = h.is; cell = f.0; there = f.1 }

pub one_cell : (W : Memory) (us : List UpDesc) (i : ℕ) (u : UpDesc) (cells : List CellId) (c : CellId) (p : Place) → place_of (plain W 0) ≡ Some p → slice_get us i ≡ Some u → IsCell W u c
    → cells_for W p (take i us) ≡ Some (map (λ (c : CellId). c.0) cells) → cells_for W p (take (i + 1) us) ≡ Some (map (λ (c : CellId). c.0) (cells ++ c ∷ []))
one_cell W us i u cells c p is g k e =
    let there : cell_for W p u ≡ Some c.0 = ap (λ (p : Place). cell_for W p u) (some_is is k.is) ∙ k.there in
    ap (cells_for W p) (taken_one us i u g)
    ∙ captured_more p.stack.coroutine p.number p.function.cells (plain W 0).cells (take i us) u (map (λ (c : CellId). c.0) cells) c.0 e there
    ∙ ap (λ (l : List ℕ). Some l) (sym (map-append (λ (c : CellId). c.0) cells (c ∷ [])))

pub can_capture : (W : Memory) (inner : ℕ) (id : ProtoId) (h : CanMake W inner) → IsInner W inner id → CanCapture W id
can_capture W inner id h i =
    let q : slice_get (functions W.codes) id.0 ≡ Some h.code = i.same ∙ ap (λ (p : Place). slice_get (list_of p.function.code.inner) inner) (some_is i.is h.is) ∙ h.there in
    record {
      place = h.place;
      is = h.is;
      within = get_within (functions W.codes) id.0 h.code q;
      cells = h.cells;
      captured = ap (λ o. cells_for W h.place (code_or_none o).own.upvalues) q ∙ h.captured;
    }

pub all_captured : (W : Memory) (id : ProtoId) (count : ℕ) (cells : List CellId) → CanCapture W id → count ≡ length (upvalues_at W id)
    → ((place : Place) → place_of (plain W 0) ≡ Some place → cells_for W place (take count (upvalues_at W id)) ≡ Some (map (λ (c : CellId). c.0) cells)) → AreCaptured W id cells
all_captured W id count cells h n e = record {
  place = h.place;
  is = h.is;
  captured = ap (cells_for W h.place) (sym (ap (λ n. take n (upvalues_at W id)) n ∙ take_all (length (upvalues_at W id)) (upvalues_at W id) (omega arith))) ∙ e h.place h.is;
}

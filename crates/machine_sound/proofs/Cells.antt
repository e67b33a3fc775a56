-- Cells: the values of upvalues, cells for registers, and functions that share them.
use Rattle.std.proofs.Common.{ℕ, zero, suc, ◌+◌, ◌<◌, ◌≡◌, ◌⊎◌, inl, inr, ⊎_elim, List, [], ◌∷◌, ◌++◌, Option, Some, None, refl, subst, sym, ap, ◌∙◌, length, arith, Bool, true, false, cond, length-append}
use Rattle.std.specs.Prelude.{slice_get, nat_eq, IsSome}
use Rattle.std.proofs.lemmas.Bool.Decides.{nat_tests}
use Rattle.int_core.specs.Value.{Value, object, a_function, bind}
use Rattle.code_core.specs.declared.proto.UpDesc.{UpDesc}
use Rattle.code_core.specs.Prototype.{Prototype, Prototypes, none, more, list_of}
use Rattle.code_core.specs.Check.{IsChecked, AllChecked}
use Rattle.machine_core.specs.World.{Function, Cell, closed, open_at, LuaFrame, Frame, lua, Coroutine, suspended, in_progress, normal, World, frames_of, lua_frame, place_of, read_cell, is_open_at, find_open_from, find_open, OneEach}
use Rattle.machine_core.specs.Text.{read_upvalue, make_function}
use Rattle.machine_core.specs.Moves.{open_register, made, move, opened_cells, captured, own_cell}
use Rattle.machine_sound.specs.Sound.{Each, Sizes, sizes, Valid, TableOk, FunctionOk, LuaOk, FrameOk, FramesOk, CoroutineOk, registers_in, registers_of, CellOk, Solid, Top, RunsOrWaits, TopIs}
use Rattle.machine_sound.specs.Safe.{on_lua, Is, TopReady, CapturesOk, MoveGood}
use Rattle.machine_sound.proofs.Lists.{each_none, each_cons, each_one, each_push, each_on, bind_at, get_there, get_push_old, push_cases}
use Rattle.machine_sound.proofs.Values.{lt_true}
use Rattle.machine_sound.proofs.Grow.{Grows, grows_self, values_on, table_on, function_on, coroutine_on, cell_on, roots_on, lua_waits_on, each_waits_on}
use Rattle.machine_sound.proofs.Frames.{the_place, place_is, function_ok, registers_top}
use Rattle.machine_sound.proofs.Moves.{made_so, some_of}
use Rattle.machine_sound.proofs.Outside.{OutsideOk, goes_outside, goes_still, quick_is, QuickGood}
use Rattle.machine_sound.proofs.Tops.{same_top}

-- reading a cell

pub frames_right : (z : Sizes) (c : Coroutine) (fs : List Frame) → frames_of c ≡ Some fs → CoroutineOk z c → FramesOk z fs
frames_right z (suspended gs) fs e h = subst (FramesOk z) (let k : Some gs ≡ Some fs = e in cc) h.right
frames_right z (in_progress gs) fs e h = subst (FramesOk z) (let k : Some gs ≡ Some fs = e in cc) h
frames_right z (normal gs) fs e h = subst (FramesOk z) (let k : Some gs ≡ Some fs = e in cc) h.right
frames_right z _ fs e h = absurd (cc)

pub lua_right : (z : Sizes) (f : Frame) (l : LuaFrame) → lua_frame f ≡ Some l → FrameOk z f → LuaOk z l
lua_right z (lua g) l e h = subst (LuaOk z) (let k : Some g ≡ Some l = e in cc) h
lua_right z _ l e h = absurd (cc)

-- where an open cell stands
pub record Stands (W : World) (co f r : ℕ) : Type 0 where
  pub of : Coroutine
  pub is : slice_get W.coroutines co ≡ Some of
  pub frames : List Frame
  pub are : frames_of of ≡ Some frames
  pub frame : Frame
  pub there : slice_get frames f ≡ Some frame
  pub top : LuaFrame
  pub is_lua : lua_frame frame ≡ Some top
  pub within : r < length top.own.registers

pub stands : (W : World) (co f r : ℕ) → r < registers_of W.coroutines co f → Stands W co f r
stands W co f r h = from (slice_get W.coroutines co) refl h
  where
    from : (o : Option Coroutine) → slice_get W.coroutines co ≡ o → r < elim (bind o frames_of) [ None ↦ 0 | Some fs ↦ registers_in fs f ] → Stands W co f r
    from None e h = absurd (omega arith)
    from (Some c) e h = within (frames_of c) refl h
      where
        within : (o : Option (List Frame)) → frames_of c ≡ o → r < elim o [ None ↦ 0 | Some fs ↦ registers_in fs f ] → Stands W co f r
        within None k h = absurd (omega arith)
        within (Some fs) k h = at (slice_get fs f) refl h
          where
            at : (o : Option Frame) → slice_get fs f ≡ o → r < elim (bind o lua_frame) [ None ↦ 0 | Some l ↦ length l.own.registers ] → Stands W co f r
            at None m h = absurd (omega arith)
            at (Some g) m h = is_lua (lua_frame g) refl h
              where
                is_lua : (o : Option LuaFrame) → lua_frame g ≡ o → r < elim o [ None ↦ 0 | Some l ↦ length l.own.registers ] → Stands W co f r
                is_lua None q h = absurd (omega arith)
                is_lua (Some l) q h = record { of = c; is = e; frames = fs; are = k; frame = g; there = m; top = l; is_lua = q; within = h }

pub cell_read : (n : ℕ) (W : World) → Solid n W → (c : Cell) → CellOk (sizes n W) W.coroutines c → (v : Value) × (read_cell W c ≡ Some v) × Valid (sizes n W) v
cell_read n W s (closed v) h = (v, refl, h)
cell_read n W s (open_at co f r) h =
    let p = stands W co f r h in
    let ok = lua_right (sizes n W) p.frame p.top p.is_lua ((frames_right (sizes n W) p.of p.frames p.are (s.coroutines co p.of p.is)).each f p.frame p.there) in
    let v = get_there p.top.own.registers r p.within in (
      v.0,
      bind_at _ (bind (slice_get W.coroutines co) frames_of) p.frames (bind_at frames_of (slice_get W.coroutines co) p.of p.is ∙ p.are)
          ∙ bind_at _ (bind (slice_get p.frames f) lua_frame) p.top (bind_at lua_frame (slice_get p.frames f) p.frame p.there ∙ p.is_lua) ∙ v.1,
      ok.registers r v.0 v.1,
    )

-- the cell of an upvalue
pub record OwnCell (n : ℕ) (t : Top) (W : World) (h : TopIs n t W) (u : ℕ) : Type 0 where
  pub number : ℕ
  pub cell : Cell
  pub is : own_cell W (the_place n t W h) u ≡ Some (number, cell)
  pub there : slice_get W.cells number ≡ Some cell
  pub right : CellOk (sizes n W) W.coroutines cell

pub own_cell_there : (n : ℕ) (t : Top) (W : World) (h : TopIs n t W) (u : ℕ) → Solid n W → u < length t.code.own.upvalues → OwnCell n t W h u
own_cell_there n t W h u s l =
    let f = function_ok n t W h s in
    let q = ap (λ (p : Prototype). length p.own.upvalues) h.code in
    let id = get_there h.function.cells u (let a = f.count in omega arith) in
    let c = get_there W.cells id.0 (f.cells u id.0 id.1) in
    record {
      number = id.0;
      cell = c.0;
      is = bind_at _ (slice_get h.function.cells u) id.0 id.1 ∙ bind_at _ (slice_get W.cells id.0) c.0 c.1;
      there = c.1;
      right = s.cells id.0 c.0 c.1;
    }

pub read_upvalue_move : (n : ℕ) (u : ℕ) → QuickGood n (read_upvalue u)
read_upvalue_move n u t env W i r =
    let c = own_cell_there n t W i.phase u i.solid r in
    let v = cell_read n W i.solid c.cell c.right in
    record {
      event = v.0;
      world = W;
      is = quick_is n (read_upvalue u) t env W i ∙ bind_at _ (own_cell W (the_place n t W i.phase) u) (c.number, c.cell) c.is ∙ bind_at _ (read_cell W c.cell) v.0 v.1;
      holds = goes_still n t env (v.0 ∷ []) W i (each_one (Valid (sizes n W)) v.0 v.2);
    }

-- finding cells

find_within : (j co k r : ℕ) (cs : List Cell) (m : ℕ) → find_open_from j co k r cs ≡ Some m → m < j + length cs
find_within j co k r [] m h = absurd (cc)
find_within j co k r (c ∷ cs) m h = pick (is_open_at co k r c) h (find_within (suc j) co k r cs m)
  where
    pick : (b : Bool) → cond b (Some j) (find_open_from (suc j) co k r cs) ≡ Some m → (find_open_from (suc j) co k r cs ≡ Some m → m < suc j + length cs) → m < j + suc (length cs)
    pick true e ih = let q : j ≡ m = cc in omega arith
    pick false e ih = let l = ih e in omega arith

find_push : (j co k r : ℕ) (cs ds : List Cell) → IsSome (find_open_from j co k r cs) → IsSome (find_open_from j co k r (cs ++ ds))
find_push j co k r [] ds h = absurd (cc)
find_push j co k r (c ∷ cs) ds h = pick (is_open_at co k r c) h (find_push (suc j) co k r cs ds)
  where
    pick : (b : Bool) → IsSome (cond b (Some j) (find_open_from (suc j) co k r cs)) → (IsSome (find_open_from (suc j) co k r cs) → IsSome (find_open_from (suc j) co k r (cs ++ ds))) → IsSome (cond b (Some j) (find_open_from (suc j) co k r (cs ++ ds)))
    pick true e ih = refl
    pick false e ih = ih e

is_open_self : (co k r : ℕ) → is_open_at co k r (open_at co k r) ≡ true
is_open_self co k r =
    let a : nat_eq co co ≡ true = grind (arith, nat_tests) in
    let b : nat_eq k k ≡ true = grind (arith, nat_tests) in
    let c : nat_eq r r ≡ true = grind (arith, nat_tests) in
    rw (a, b, c) refl

find_new : (j co k r : ℕ) (cs : List Cell) → IsSome (find_open_from j co k r (cs ++ open_at co k r ∷ []))
find_new j co k r [] = rw (is_open_self co k r) refl
find_new j co k r (c ∷ cs) = pick (is_open_at co k r c) (find_new (suc j) co k r cs)
  where
    pick : (b : Bool) → IsSome (find_open_from (suc j) co k r (cs ++ open_at co k r ∷ [])) → IsSome (cond b (Some j) (find_open_from (suc j) co k r (cs ++ open_at co k r ∷ [])))
    pick true ih = refl
    pick false ih = ih

find_none : (j co k r : ℕ) (cs : List Cell) → find_open_from j co k r cs ≡ None → (i : ℕ) → slice_get cs i ≡ Some (open_at co k r) → ⊥
find_none j co k r [] h i e = absurd (cc)
find_none j co k r (c ∷ cs) h i e = pick (is_open_at co k r c) refl h i e (find_none (suc j) co k r cs)
  where
    pick : (b : Bool) → is_open_at co k r c ≡ b → cond b (Some j) (find_open_from (suc j) co k r cs) ≡ None → (i : ℕ) → slice_get (c ∷ cs) i ≡ Some (open_at co k r) → (find_open_from (suc j) co k r cs ≡ None → (i : ℕ) → slice_get cs i ≡ Some (open_at co k r) → ⊥) → ⊥
    pick true a e i g ih = absurd (cc)
    pick false a e zero g ih = let q : c ≡ open_at co k r = cc in let s = is_open_self co k r in let w = subst (λ c. is_open_at co k r c ≡ false) q a in absurd (cc)
    pick false a e (suc i) g ih = ih e i g

-- a cell for a register

abbrev pub with_cell : World → Cell → World
with_cell W c = record W { cells = W.cells ++ c ∷ [] }

module _ (n : ℕ) (t : Top) (W : World) (h : TopIs n t W) (s : Solid n W) (r : ℕ) (l : r < t.size) (b : r < t.cells) (e : find_open h.coroutine (length h.base) r W.cells ≡ None) where
  abbrev new : Cell
  new = open_at h.coroutine (length h.base) r

  abbrev V : World
  V = with_cell W (open_at h.coroutine (length h.base) r)

  pub cell_grows : Grows (sizes n W) (sizes n V)
  cell_grows = record { primitives = refl; tables = omega arith; some = omega arith; functions = λ i f e. e; cells = (let a = length-append W.cells (new ∷ []) in omega arith); coroutines = omega arith }

  one : OneEach (W.cells ++ new ∷ [])
  one i j d g q x y = both (push_cases W.cells new (open_at d g q) i x) (push_cases W.cells new (open_at d g q) j y)
    where
      clash : (m : ℕ) → slice_get W.cells m ≡ Some (open_at d g q) → open_at h.coroutine (length h.base) r ≡ open_at d g q → i ≡ j
      clash m x y = absurd (find_none 0 h.coroutine (length h.base) r W.cells e m (x ∙ ap Some (sym y)))

      both : (slice_get W.cells i ≡ Some (open_at d g q)) ⊎ ((i ≡ length W.cells) × (new ≡ open_at d g q)) → (slice_get W.cells j ≡ Some (open_at d g q)) ⊎ ((j ≡ length W.cells) × (new ≡ open_at d g q)) → i ≡ j
      both (inl x) (inl y) = s.one_each i j d g q x y
      both (inl x) (inr y) = clash i x y.1
      both (inr x) (inl y) = clash j y x.1
      both (inr x) (inr y) = x.0 ∙ sym y.0

  pub cell_solid : Solid n V
  cell_solid =
      let z = sizes n W in
      let y = sizes n V in
      let g = cell_grows in
      let a : registers_of W.coroutines h.coroutine (length h.base) ≡ length h.top.own.registers = rw (h.frames, registers_of) (registers_top h.base h.top) in
      record {
        tables = each_on (TableOk z) (TableOk y) (table_on z y g) W.heap.tables s.tables;
        functions = each_on (FunctionOk z) (FunctionOk y) (function_on z y g) W.functions s.functions;
        cells = each_push (CellOk y W.coroutines) W.cells new (each_on (CellOk z W.coroutines) (CellOk y W.coroutines) (cell_on z y g W.coroutines) W.cells s.cells) (let c = h.size in let q : r < registers_of W.coroutines h.coroutine (length h.base) = omega arith in q);
        one_each = one;
        coroutines = each_on (CoroutineOk z) (CoroutineOk y) (coroutine_on z y g) W.coroutines s.coroutines;
        chain = s.chain;
        moving = values_on z y g W.moving s.moving;
        roots = roots_on z y g W V s.roots refl refl refl refl refl refl;
      }

  pub cell_top : TopIs n (record t { captured = r ∷ t.captured }) V
  cell_top =
      same_top n t W V h t.pending t.cells (r ∷ t.captured) h.last h.frames h.there
      (each_waits_on (sizes n W) (sizes n V) cell_grows h.base h.below) h.pending
      (λ i q x. ⊎_elim (λ o. h.cells i q o) (λ o. (let p : r ≡ q = (let w = o.1 in cc) in omega arith)) (push_cases W.cells new (open_at h.coroutine (length h.base) q) i x))
      (each_cons (λ r. IsSome (find_open h.coroutine (length h.base) r V.cells)) r t.captured (find_new 0 h.coroutine (length h.base) r W.cells)
      (each_on (λ r. IsSome (find_open h.coroutine (length h.base) r W.cells)) (λ r. IsSome (find_open h.coroutine (length h.base) r V.cells)) (λ q x. find_push 0 h.coroutine (length h.base) q W.cells (new ∷ []) x) t.captured h.captured)) (waits t.runs h.wait)
    where
      waits : (b : Bool) → RunsOrWaits b (sizes n W) h.top → RunsOrWaits b (sizes n V) h.top
      waits true k = k
      waits false k = lua_waits_on (sizes n W) (sizes n V) cell_grows h.top k

-- the register has one already
cell_known : (n : ℕ) (t : Top) (W : World) (h : TopIs n t W) (r : ℕ) → IsSome (find_open h.coroutine (length h.base) r W.cells) → TopIs n (record t { captured = r ∷ t.captured }) W
cell_known n t W h r e =
    same_top n t W W h t.pending t.cells (r ∷ t.captured) h.last h.frames h.there h.below h.pending h.cells
    (each_cons (λ r. IsSome (find_open h.coroutine (length h.base) r W.cells)) r t.captured e h.captured) h.wait

pub open_register_move : (n r : ℕ) (t : Top) (env : List Value) (W : World) → Is n (on_lua t) env W → TopReady t env (open_register r) → MoveGood n (on_lua t) env (open_register r) W
open_register_move n r t env W i l = from (find_open h.coroutine (length h.base) r W.cells) refl
  where
    h : TopIs n t W
    h = i.phase

    is : (o : Option ℕ) → find_open i.phase.coroutine (length i.phase.base) r W.cells ≡ o → move (open_register r) env W ≡ Some (record { world = record W { cells = opened_cells o i.phase.coroutine (length i.phase.base) r W.cells }; values = []; told = tt })
    is o e =
        bind_at _ (place_of W) (the_place n t W i.phase) (place_is n t W i.phase)
        ∙ ap (λ b. cond b (made (record W { cells = opened_cells (find_open i.phase.coroutine (length i.phase.base) r W.cells) i.phase.coroutine (length i.phase.base) r W.cells }) [] tt) None) (lt_true r (length i.phase.top.own.registers) (let a = i.phase.size in let b = l.0 in omega arith))
        ∙ ap (λ o. Some (record { world = record W { cells = opened_cells o i.phase.coroutine (length i.phase.base) r W.cells }; values = []; told = tt })) e

    from : (o : Option ℕ) → find_open i.phase.coroutine (length i.phase.base) r W.cells ≡ o → MoveGood n (on_lua t) env (open_register r) W
    from (Some m) e = record {
      event = tt;
      world = W;
      is = is (Some m) e;
      holds = made_so n (on_lua t) (on_lua (record t { captured = r ∷ t.captured })) env [] W W i (grows_self (sizes n W)) i.solid (cell_known n t W i.phase r (rw e refl)) (each_none (Valid (sizes n W)));
    }
    from None e = record {
      event = tt;
      world = with_cell W (open_at i.phase.coroutine (length i.phase.base) r);
      is = is None e;
      holds = made_so n (on_lua t) (on_lua (record t { captured = r ∷ t.captured })) env [] W (with_cell W (open_at i.phase.coroutine (length i.phase.base) r)) i (cell_grows n t W i.phase i.solid r l.0 l.1 e) (cell_solid n t W i.phase i.solid r l.0 l.1 e) (cell_top n t W i.phase i.solid r l.0 l.1 e) (each_none (Valid (sizes n (with_cell W (open_at i.phase.coroutine (length i.phase.base) r)))));
    }

-- functions

pub record CapturedSo (W : World) (us : List UpDesc) (o : Option (List ℕ)) : Type 0 where
  pub ids : List ℕ
  pub is : o ≡ Some ids
  pub count : length ids ≡ length us
  pub within : Each (λ c. c < length W.cells) ids

captured_so : (W : World) (co k : ℕ) (outer : List ℕ) (p : Prototype) (cells : List ℕ) → length outer ≡ length p.own.upvalues → Each (λ c. c < length W.cells) outer → Each (λ r. IsSome (find_open co k r W.cells)) cells → (us : List UpDesc) → CapturesOk p cells us → CapturedSo W us (captured us co k outer W.cells)
captured_so W co k outer p cells n w c [] h = record { ids = []; is = refl; count = refl; within = each_none (λ c. c < length W.cells) }
captured_so W co k outer p cells n w c (u ∷ us) h =
    let ih = captured_so W co k outer p cells n w c us h.1 in
    let f = first u.in_stack u.index h.0 in
    record {
      ids = f.0 ∷ ih.ids;
      is = bind_at _ (cond u.in_stack (find_open co k u.index W.cells) (slice_get outer u.index)) f.0 f.1 ∙ bind_at _ (captured us co k outer W.cells) ih.ids ih.is;
      count = ap suc ih.count;
      within = each_cons (λ c. c < length W.cells) f.0 ih.ids f.2 ih.within;
    }
  where
    first : (b : Bool) (x : ℕ) → cond b ((i : ℕ) × (slice_get cells i ≡ Some x)) (x < length p.own.upvalues) → (m : ℕ) × (cond b (find_open co k x W.cells) (slice_get outer x) ≡ Some m) × (m < length W.cells)
    first true x g = let m = some_of (find_open co k x W.cells) (c g.0 x g.1) in (m.0, m.1, let q = find_within 0 co k x W.cells m.0 m.1 in omega arith)
    first false x g = let m = get_there outer x (omega arith) in (m.0, m.1, w x m.0 m.1)

-- what is within checked code is checked
pub inner_checked : (ps : Prototypes) (m : ℕ) (q : Prototype) → AllChecked ps → slice_get (list_of ps) m ≡ Some q → IsChecked q
inner_checked none m q h e = absurd (cc)
inner_checked (more own inner rest) zero q h e = subst IsChecked (let k : Some (record { own = own; inner = inner }) ≡ Some q = e in cc) (record { code = h.0; inner = h.1 })
inner_checked (more own inner rest) (suc m) q h e = inner_checked rest m q h.2 e

pub make_function_move : (n m : ℕ) → QuickGood n (make_function m)
make_function_move n m t env W i r =
    let h = i.phase in
    let s = i.solid in
    let f = function_ok n t W h s in
    let q = r.inner in
    let there : slice_get (list_of h.function.code.inner) m ≡ Some q = ap (λ (p : Prototype). slice_get (list_of p.inner) m) h.code ∙ r.there in
    let x = captured_so W h.coroutine (length h.base) h.function.cells t.code t.captured (f.count ∙ ap (λ (p : Prototype). length p.own.upvalues) h.code) f.cells h.captured q.own.upvalues r.captures in
    let g : Function = record { code = q; cells = x.ids } in
    let V = record W { functions = W.functions ++ g ∷ [] } in
    let z = sizes n W in
    let y = sizes n V in
    let l = length-append W.functions (g ∷ []) in
    let gr : Grows z y = record { primitives = refl; tables = omega arith; some = omega arith; functions = λ i k e. get_push_old W.functions (g ∷ []) i k e; cells = omega arith; coroutines = omega arith } in
    let ok : FunctionOk y g = record { code = inner_checked h.function.code.inner m q f.code.inner there; count = x.count; cells = x.within } in
    let o : OutsideOk n W V = record {
      grows = gr;
      tables = each_on (TableOk z) (TableOk y) (table_on z y gr) W.heap.tables s.tables;
      metatable = refl;
      functions = each_push (FunctionOk y) W.functions g (each_on (FunctionOk z) (FunctionOk y) (function_on z y gr) W.functions s.functions) ok;
      moving = values_on z y gr W.moving s.moving;
    } in
    record {
      event = length W.functions;
      world = V;
      is = quick_is n (make_function m) t env W i ∙ bind_at _ (slice_get (list_of h.function.code.inner) m) q there ∙ bind_at _ (captured q.own.upvalues h.coroutine (length h.base) h.function.cells W.cells) x.ids x.is;
      holds = goes_outside n t env (object a_function (length W.functions) ∷ []) W W.heap (W.functions ++ g ∷ []) W.moving W.fuel o i (each_one (Valid y) (object a_function (length W.functions)) (omega arith));
    }

-- One more function: what is known of the others stays.
use Rattle.std.proofs.Common.{ℕ, zero, suc, ◌≡◌, ◌≢◌, ⊎_elim, List, [], ◌∷◌, ◌++◌, Some, refl, subst, sym, ap, ◌∙◌, length, arith, Bool, true, false, cond}
use Rattle.std.specs.Prelude.{slice_get}
use Rattle.int_core.specs.Value.{a_table, Value, object}
use Rattle.code_core.specs.declared.proto.UpDesc.{UpDesc}
use Rattle.code_core.specs.Prototype.{Prototype, list_of}
use Rattle.machine_core.specs.World.{Function, Cell, closed, open_at, LuaFrame, Frame, lua, Coroutine, suspended, in_progress, normal, World, Place, find_open}
use Rattle.machine_core.specs.Moves.{captured, add_loaded}
use Rattle.machine_sound.proofs.Lists.{each_on, get_push_old, get_push_new, push_cases, get_within, some_is}
use Rattle.list_laws.proofs.Items.{length_more}
use Rattle.prelude_stays.specs.Guards.{Guard, unguarded, Shares, IsGuarded, free, kept}
use Rattle.prelude_stays.specs.Kept.{Home, Apart, LuaOk, FrameOk, CoroutineOk, CellOk, IsApart, FunctionOk, Keeps}
use Rattle.prelude_stays.proofs.Worlds.{OnPlace, function_there, stands_at}
use Rattle.prelude_stays.proofs.Outside.{find_is, captured_is}

-- no such cell is that of the environment
pub not_home : (y : Home) (gs : List Guard) (W : World) → Keeps y gs W → (c : ℕ) → IsApart y.table gs W.coroutines W.cells c → c ≢ y.cell
not_home y gs W k c x q =
    let z : x.cell ≡ closed (object a_table y.table) = some_is x.there (ap (slice_get W.cells) q ∙ k.cell) in
    subst (CellOk y.table gs W.coroutines) z x.right refl

module _ (e : ℕ) (gs more : List Guard) where
  lua_more : (f : LuaFrame) → LuaOk e gs f → LuaOk e (gs ++ more) f
  lua_more f h = record { guard = h.guard; there = get_push_old gs more f.function h.guard h.there; registers = h.registers; varargs = h.varargs; pending = h.pending; wait = h.wait }

  frame_more : (f : Frame) → FrameOk e gs f → FrameOk e (gs ++ more) f
  frame_more (lua f) h = lua_more f h
  frame_more _ h = h

  pub coroutine_more : (c : Coroutine) → CoroutineOk e gs c → CoroutineOk e (gs ++ more) c
  coroutine_more (suspended fs) h = each_on (FrameOk e gs) (FrameOk e (gs ++ more)) frame_more fs h
  coroutine_more (in_progress fs) h = each_on (FrameOk e gs) (FrameOk e (gs ++ more)) frame_more fs h
  coroutine_more (normal fs) h = each_on (FrameOk e gs) (FrameOk e (gs ++ more)) frame_more fs h
  coroutine_more _ h = h

  pub cell_more : (cos : List Coroutine) (c : Cell) → CellOk e gs cos c → CellOk e (gs ++ more) cos c
  cell_more cos (closed v) h = h
  cell_more cos (open_at co n r) h = record { function = h.function; stands = h.stands; guard = h.guard; there = get_push_old gs more h.function h.guard h.there; apart = h.apart }

  apart_more : (cos : List Coroutine) (cells : List Cell) (c : ℕ) → IsApart e gs cos cells c → IsApart e (gs ++ more) cos cells c
  apart_more cos cells c h = record { cell = h.cell; there = h.there; right = cell_more cos h.cell h.right }

-- the guard of a function that is defined within another one
pub record Inner (g : Guard) (q : Prototype) : Type 0 where
  pub guard : Guard
  pub code : IsGuarded guard q
  pub shares : (i : ℕ) (u : UpDesc) → slice_get q.own.upvalues i ≡ Some u → Shares g guard i u

pub inner_of : (g : Guard) (p : Prototype) → IsGuarded g p → (n : ℕ) (q : Prototype) → slice_get (list_of p.inner) n ≡ Some q → Inner g q
inner_of g p (free p') n q e = record { guard = unguarded; code = free q; shares = λ i u z. by u.in_stack i u }
  where
    by : (b : Bool) (i : ℕ) (u : UpDesc) → cond b (false ≡ false → false ≡ false) (false ≡ false)
    by true i u = λ _. refl
    by false i u = refl
inner_of g p (kept g' p' rows waits inner code shares) n q e = record { guard = inner n; code = code n q e; shares = shares n q e }

-- a new function of the frame on top
module _ (y : Home) (gs : List Guard) (W : World) (k : Keeps y gs W) (p : Place) (o : OnPlace W p) (g : Guard) (t : slice_get gs p.top.function ≡ Some g) (n : ℕ) (q : Prototype) (inside : slice_get (list_of p.function.code.inner) n ≡ Some q)
    (ids : List ℕ) (is : captured q.own.upvalues p.stack.coroutine p.number p.function.cells W.cells ≡ Some ids) where
  pub f : FunctionOk y gs W p.top.function p.function
  f = function_there y gs W k p o

  pub same : f.guard ≡ g
  same = some_is f.there t

  pub i : Inner g q
  i = subst (λ g. Inner g q) same (inner_of f.guard p.function.code f.code n q inside)

  abbrev pub new : Function
  new = record { code = q; cells = ids }

  abbrev V : World
  V = record W { functions = W.functions ++ record { code = q; cells = ids } ∷ [] }

  -- a register's cell, or one of the outer function's
  found : (b : Bool) (x : ℕ) (j c : ℕ) → cond b (i.guard.upvalues j ≡ false → g.registers x ≡ false) (g.upvalues x ≡ false) → cond b (find_open p.stack.coroutine p.number x W.cells) (slice_get p.function.cells x) ≡ Some c
      → (i.guard.upvalues j ≡ false → IsApart y.table gs W.coroutines W.cells c) × (c ≢ y.cell)
  found true x j c s e =
      let z = find_is 0 p.stack.coroutine p.number x W.cells c e in
      let a : c ≡ z.0 = (let r = z.1 in omega arith) in
      let b : slice_get W.cells c ≡ Some (open_at p.stack.coroutine p.number x) = ap (slice_get W.cells) a ∙ z.2 in (
        λ h. record { cell = open_at p.stack.coroutine p.number x; there = b; right = record { function = p.top.function; stands = stands_at y gs W k p o; guard = g; there = t; apart = s h } },
        λ r. let w = sym b ∙ ap (slice_get W.cells) r ∙ k.cell in cc,
      )
  found false x j c s e =
      let a = f.cells x c e (ap (λ (g : Guard). g.upvalues x) same ∙ s) in
      (λ h. a, not_home y gs W k c a)

  each : (j c : ℕ) → slice_get ids j ≡ Some c → (i.guard.upvalues j ≡ false → IsApart y.table gs W.coroutines W.cells c) × (c ≢ y.cell)
  each j c e =
      let z = captured_is q.own.upvalues p.stack.coroutine p.number p.function.cells W.cells ids is j c e in
      found z.0.in_stack z.0.index j c (i.shares j z.0 z.1) z.2

  new_ok : FunctionOk y (gs ++ i.guard ∷ []) V (length W.functions) (record { code = q; cells = ids })
  new_ok = record {
    guard = i.guard;
    there = ap (slice_get (gs ++ i.guard ∷ [])) (sym k.count) ∙ get_push_new gs i.guard;
    code = i.code;
    cells = λ j c e h. apart_more y.table gs (i.guard ∷ []) W.coroutines W.cells c ((each j c e).0 h);
    apart = λ l j c e. (each j c e).1;
  }

  function_more : (m : ℕ) (h : Function) → FunctionOk y gs W m h → FunctionOk y (gs ++ i.guard ∷ []) V m h
  function_more m h z = record {
    guard = z.guard;
    there = get_push_old gs (i.guard ∷ []) m z.guard z.there;
    code = z.code;
    cells = λ j c a b. apart_more y.table gs (i.guard ∷ []) W.coroutines W.cells c (z.cells j c a b);
    apart = z.apart;
  }

  abbrev pub made_guard : Guard
  made_guard = i.guard

  pub function_keeps : Keeps y (gs ++ i.guard ∷ []) (record W { functions = W.functions ++ record { code = q; cells = ids } ∷ [] })
  function_keeps = record {
    count = length_more gs i.guard ∙ ap suc k.count ∙ sym (length_more W.functions new);
    heap = k.heap;
    functions = λ m h e. ⊎_elim (λ a. function_more m h (k.functions m h a)) (λ a. subst (FunctionOk y (gs ++ i.guard ∷ []) V m) a.1 (subst (λ m. FunctionOk y (gs ++ i.guard ∷ []) V m new) (sym a.0) new_ok)) (push_cases W.functions new h m e);
    cell = k.cell;
    globals = k.globals;
    coroutines = each_on (CoroutineOk y.table gs) (CoroutineOk y.table (gs ++ i.guard ∷ [])) (coroutine_more y.table gs (i.guard ∷ [])) W.coroutines k.coroutines;
    moving = k.moving;
  }

-- a function of other code, with a new cell for its variables
module _ (y : Home) (gs : List Guard) (W : World) (k : Keeps y gs W) (q : Prototype) (v : Value) (a : Apart y.table v) where
  abbrev more_cells : List Cell
  more_cells = W.cells ++ closed v ∷ []

  carries : (c : ℕ) → IsApart y.table gs W.coroutines W.cells c → IsApart y.table (gs ++ unguarded ∷ []) W.coroutines (W.cells ++ closed v ∷ []) c
  carries c h = record { cell = h.cell; there = get_push_old W.cells (closed v ∷ []) c h.cell h.there; right = cell_more y.table gs (unguarded ∷ []) W.coroutines h.cell h.right }

  loaded_one : (j c : ℕ) → slice_get (length W.cells ∷ []) j ≡ Some c → c ≡ length W.cells
  loaded_one zero c e = let z : length W.cells ≡ c = cc in sym z
  loaded_one (suc j) c e = absurd (cc)

  loaded_ok : FunctionOk y (gs ++ unguarded ∷ []) (add_loaded W q v) (length W.functions) (record { code = q; cells = length W.cells ∷ [] })
  unfolding add_loaded
  loaded_ok = record {
    guard = unguarded;
    there = ap (slice_get (gs ++ unguarded ∷ [])) (sym k.count) ∙ get_push_new gs unguarded;
    code = free q;
    cells = λ j c e h. record { cell = closed v; there = ap (slice_get (W.cells ++ closed v ∷ [])) (loaded_one j c e) ∙ get_push_new W.cells (closed v); right = a };
    apart = λ l j c e z. let i = get_within W.cells y.cell (closed (object a_table y.table)) k.cell in let b = sym (loaded_one j c e) ∙ z in omega (arith, i, b);
  }

  loaded_on : (m : ℕ) (h : Function) → FunctionOk y gs W m h → FunctionOk y (gs ++ unguarded ∷ []) (add_loaded W q v) m h
  unfolding add_loaded
  loaded_on m h z = record {
    guard = z.guard;
    there = get_push_old gs (unguarded ∷ []) m z.guard z.there;
    code = z.code;
    cells = λ j c a b. carries c (z.cells j c a b);
    apart = z.apart;
  }

  pub loaded_keeps : Keeps y (gs ++ unguarded ∷ []) (add_loaded W q v)
  unfolding add_loaded
  loaded_keeps = record {
    count = length_more gs unguarded ∙ ap suc k.count ∙ sym (length_more W.functions (record { code = q; cells = length W.cells ∷ [] }));
    heap = k.heap;
    functions = λ m h e. ⊎_elim (λ a. loaded_on m h (k.functions m h a))
        (λ a. subst (FunctionOk y (gs ++ unguarded ∷ []) (add_loaded W q v) m) a.1 (subst (λ m. FunctionOk y (gs ++ unguarded ∷ []) (add_loaded W q v) m (record { code = q; cells = length W.cells ∷ [] })) (sym a.0) loaded_ok))
        (push_cases W.functions (record { code = q; cells = length W.cells ∷ [] }) h m e);
    cell = get_push_old W.cells (closed v ∷ []) y.cell (closed (object a_table y.table)) k.cell;
    globals = k.globals;
    coroutines = each_on (CoroutineOk y.table gs) (CoroutineOk y.table (gs ++ unguarded ∷ [])) (coroutine_more y.table gs (unguarded ∷ [])) W.coroutines k.coroutines;
    moving = k.moving;
  }

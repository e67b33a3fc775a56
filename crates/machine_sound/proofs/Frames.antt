-- Solid worlds with other frames of the running coroutine, and with some of its cells closed.
use Rattle.std.proofs.Common.{ℕ, zero, suc, ◌-◌, ◌<◌, ◌≡◌, ⊎_elim, List, [], ◌∷◌, ◌++◌, Some, refl, subst, sym, ap, ◌∙◌, length, arith, length-append}
use Rattle.std.specs.Prelude.{slice_get, slice_set}
use Rattle.std.proofs.lemmas.Bool.{cases_eq}
use Rattle.int_core.specs.Value.{Value, bind, last}
use Rattle.machine_core.specs.World.{Function, Cell, closed, open_at, Wait, Activation, LuaFrame, Frame, lua, in_progress, World, Stack, stack_of, lua_frame, Place, place_of, put_frames, put_top}
use Rattle.machine_core.specs.Text.{Own, done}
use Rattle.machine_core.specs.Moves.{cells_done, with_own}
use Rattle.machine_sound.specs.Sound.{Each, sizes, Valid, TableOk, FunctionOk, WaitOk, LuaOk, FrameOk, FramesOk, CoroutineOk, standing, ChainOk, registers_in, registers_of, CellOk, Solid, Top, RunsOrWaits, TopIs}
use Rattle.machine_sound.proofs.Lists.{get_set_same, get_set_other, length_set, get_push_new, some_is, each_set, each_push, each_front, each_last, each_on, bind_at, map_set, last_push, without_push}
use Rattle.machine_sound.proofs.Grow.{Grows, valid_on, values_on, table_on, function_on, frames_on, coroutine_on, roots_on, each_waits_on}
use Rattle.machine_sound.proofs.Own.{OwnIs}

-- the world with other cells, and other frames of a running coroutine
abbrev pub set_stack : World → List Cell → ℕ → List Frame → World
set_stack W cells co frames = record W { cells = cells; coroutines = slice_set W.coroutines co (in_progress frames) }

-- some cells were closed, and those still open fit the new frames
pub record CellsFit (n : ℕ) (W : World) (co : ℕ) (frames : List Frame) (cells : List Cell) : Type 0 where
  pub count : length cells ≡ length W.cells
  pub still_open : (i d g r : ℕ) → slice_get cells i ≡ Some (open_at d g r) → slice_get W.cells i ≡ Some (open_at d g r)
  pub closed_ok : (i : ℕ) (v : Value) → slice_get cells i ≡ Some (closed v) → Valid (sizes n W) v
  pub there : (i g r : ℕ) → slice_get cells i ≡ Some (open_at co g r) → r < registers_in frames g

module _ (n : ℕ) (W : World) (co : ℕ) (fs gs : List Frame) (cells : List Cell) (c : slice_get W.coroutines co ≡ Some (in_progress fs)) (f : CellsFit n W co gs cells) where
  abbrev after : World
  after = set_stack W cells co gs

  pub stack_grows : Grows (sizes n W) (sizes n (set_stack W cells co gs))
  stack_grows = record {
    primitives = refl;
    tables = omega arith;
    some = omega arith;
    functions = λ i f h. h;
    cells = let k = f.count in omega arith;
    coroutines = let k = length_set W.coroutines co (in_progress gs) in omega arith;
  }

  registers_same : (g : ℕ) → registers_of (slice_set W.coroutines co (in_progress gs)) co g ≡ registers_in gs g
  registers_same g = rw (get_set_same W.coroutines co (in_progress fs) (in_progress gs) c, registers_of) refl

  registers_apart : (d g : ℕ) → (d ≡ co → ⊥) → registers_of (slice_set W.coroutines co (in_progress gs)) d g ≡ registers_of W.coroutines d g
  registers_apart d g q = rw (get_set_other W.coroutines co d (in_progress gs) (λ e. q (sym e)), registers_of) refl

  cells_ok : Each (CellOk (sizes n W) W.coroutines) W.cells → Each (CellOk (sizes n after) after.coroutines) cells
  cells_ok s i (closed v) e = valid_on (sizes n W) (sizes n after) stack_grows v (f.closed_ok i v e)
  cells_ok s i (open_at d g r) e = ⊎_elim
      (λ (q : d ≡ co). subst (λ d. r < registers_of after.coroutines d g) (sym q) (subst (λ m. r < m) (sym (registers_same g)) (f.there i g r (subst (λ d. slice_get cells i ≡ Some (open_at d g r)) q e))))
      (λ q. subst (λ m. r < m) (sym (registers_apart d g q)) (s i (open_at d g r) (f.still_open i d g r e)))
      (cases_eq d co)

  -- the world is solid again, where the new frames are right
  pub stack_solid : Solid n W → FramesOk (sizes n W) gs → Solid n (set_stack W cells co gs)
  stack_solid s k =
      let g = stack_grows in
      let z = sizes n W in
      let y = sizes n after in
      record {
        tables = each_on (TableOk z) (TableOk y) (table_on z y g) W.heap.tables s.tables;
        functions = each_on (FunctionOk z) (FunctionOk y) (function_on z y g) W.functions s.functions;
        cells = cells_ok s.cells;
        one_each = λ i j d h r a b. s.one_each i j d h r (f.still_open i d h r a) (f.still_open j d h r b);
        coroutines = each_set (CoroutineOk y) W.coroutines co (in_progress gs) (each_on (CoroutineOk z) (CoroutineOk y) (coroutine_on z y g) W.coroutines s.coroutines) (frames_on z y g gs k);
        chain = subst (λ st. ChainOk W.main st W.chain) (sym (map_set standing W.coroutines co (in_progress fs) (in_progress gs) c refl)) s.chain;
        moving = values_on z y g W.moving s.moving;
        roots = roots_on z y g W after s.roots refl refl refl refl refl refl;
      }

  pub stack_there : slice_get (slice_set W.coroutines co (in_progress gs)) co ≡ Some (in_progress gs)
  stack_there = get_set_same W.coroutines co (in_progress fs) (in_progress gs) c

-- registers of frames

pub registers_top : (base : List Frame) (f : LuaFrame) → registers_in (base ++ lua f ∷ []) (length base) ≡ length f.own.registers
registers_top base f = rw (get_push_new base (lua f), registers_in) refl

get_other : (base : List Frame) (x y : Frame) (g : ℕ) → (g ≡ length base → ⊥) → slice_get (base ++ x ∷ []) g ≡ slice_get (base ++ y ∷ []) g
get_other [] x y zero q = absurd (q refl)
get_other [] x y (suc g) q = refl
get_other (b ∷ base) x y zero q = refl
get_other (b ∷ base) x y (suc g) q = get_other base x y g (λ e. q (ap suc e))

pub registers_other : (base : List Frame) (x y : Frame) (g : ℕ) → (g ≡ length base → ⊥) → registers_in (base ++ x ∷ []) g ≡ registers_in (base ++ y ∷ []) g
registers_other base x y g q = rw (get_other base x y g q, registers_in) refl

-- the parts of a world with a Lua frame on top

pub stack_is : (W : World) (co : ℕ) (fs : List Frame) → last W.chain ≡ Some co → slice_get W.coroutines co ≡ Some (in_progress fs) → stack_of W ≡ Some (record { coroutine = co; frames = fs })
stack_is W co fs h k = rw (h, k) refl

pub top_put : (W : World) (s : Stack) (base : List Frame) (old new : LuaFrame) → s.frames ≡ base ++ lua old ∷ [] → put_top W s (lua new) ≡ set_stack W W.cells s.coroutine (base ++ lua new ∷ [])
unfolding put_top put_frames
top_put W s base old new e = rw (e, without_push base (lua old)) refl

module _ (n : ℕ) (t : Top) (W : World) (h : TopIs n t W) where
  abbrev pub the_place : Place
  the_place = record { stack = record { coroutine = h.coroutine; frames = h.base ++ lua h.top ∷ [] }; number = length h.base; top = h.top; function = h.function }

  pub number_is : length (h.base ++ lua h.top ∷ []) - 1 ≡ length h.base
  number_is = let k = length-append h.base (lua h.top ∷ []) in omega arith

  pub place_is : place_of W ≡ Some the_place
  place_is =
      bind_at _ (stack_of W) _ (stack_is W h.coroutine (h.base ++ lua h.top ∷ []) h.last h.frames)
      ∙ bind_at _ (bind (last (h.base ++ lua h.top ∷ [])) lua_frame) h.top (bind_at lua_frame (last (h.base ++ lua h.top ∷ [])) (lua h.top) (last_push h.base (lua h.top)))
      ∙ bind_at _ (slice_get W.functions h.top.function) h.function h.there
      ∙ ap (λ k. Some (record { stack = record { coroutine = h.coroutine; frames = h.base ++ lua h.top ∷ [] }; number = k; top = h.top; function = h.function })) number_is

  -- the top frame is right
  pub frames_ok : Solid n W → FramesOk (sizes n W) (h.base ++ lua h.top ∷ [])
  frames_ok s = s.coroutines h.coroutine _ h.frames

  pub top_ok : Solid n W → LuaOk (sizes n W) h.top
  top_ok s = each_last (FrameOk (sizes n W)) h.base (lua h.top) (frames_ok s).each

  pub function_ok : Solid n W → FunctionOk (sizes n W) h.function
  function_ok s = s.functions h.top.function h.function h.there

  pub own_known : Solid n W → OwnIs (sizes n W) W.cells h.function.code h.coroutine (length h.base) t h.top.own W.cells
  own_known s =
      let k = top_ok s in
      let e : k.function ≡ h.function = some_is k.there h.there in
      let q = ap (λ (f : Function). f.code.own.stack) e in
      record {
        code = sym h.code;
        pc = h.pc;
        size = h.size;
        opened = h.opened;
        bound = h.pending;
        stack = (let a = k.stack in let b = h.size in omega arith);
        registers = k.registers;
        varargs = k.varargs;
        pending = subst (λ m. Each (λ r. r < m) h.top.own.pending) q k.pending;
        cells_below = h.cells;
        cells_there = λ i r e. (let a = subst (λ m. r < m) (there r) (s.cells i _ e) in let b = h.size in omega arith);
        still_open = λ i d g r e. e;
        closed_ok = λ i v e. s.cells i (closed v) e;
        count = refl;
        captured = h.captured;
      }
    where
      there : (r : ℕ) → registers_of W.coroutines h.coroutine (length h.base) ≡ length h.top.own.registers
      there r = rw (h.frames, registers_of) (registers_top h.base h.top)

  -- a frame in its place
  abbrev pub frame_so : Wait Value → Activation → LuaFrame
  frame_so w own = record h.top { wait = w; own = own }

  pub with_own_is : (w : Wait Value) (ms : List Own) (env : List Value) → with_own W the_place w ms env ≡ set_stack W (cells_done ms h.function.code h.coroutine (length h.base) env h.top.own W.cells) h.coroutine (h.base ++ lua (frame_so w (done ms h.function.code env h.top.own)) ∷ [])
  unfolding with_own put_top put_frames
  with_own_is w ms env = rw (without_push h.base (lua h.top)) refl

  module _ (s : Solid n W) (u : Top) (w : Wait Value) (own : Activation) (cells : List Cell) (k : OwnIs (sizes n W) W.cells h.function.code h.coroutine (length h.base) u own cells) (e : WaitOk (sizes n W) w) where
    new_ok : LuaOk (sizes n W) (frame_so w own)
    new_ok = record { function = h.function; there = h.there; stack = (let a = k.stack in let b = k.size in omega arith); registers = k.registers; varargs = k.varargs; pending = k.pending; error = e }

    new_frames : FramesOk (sizes n W) (h.base ++ lua (frame_so w own) ∷ [])
    new_frames = record {
      each = each_push (FrameOk (sizes n W)) h.base (lua (frame_so w own)) (each_front (FrameOk (sizes n W)) h.base (lua h.top ∷ []) (frames_ok s).each) new_ok;
      depth = (let a = (frames_ok s).depth in let b = length-append h.base (lua h.top ∷ []) in let c = length-append h.base (lua (frame_so w own) ∷ []) in omega arith);
    }

    new_fit : CellsFit n W h.coroutine (h.base ++ lua (frame_so w own) ∷ []) cells
    new_fit = record { count = k.count; still_open = k.still_open; closed_ok = k.closed_ok; there = there }
      where
        there : (i g r : ℕ) → slice_get cells i ≡ Some (open_at h.coroutine g r) → r < registers_in (h.base ++ lua (frame_so w own) ∷ []) g
        there i g r o = ⊎_elim
            (λ (q : g ≡ length h.base).
            let a = k.cells_there i r (subst (λ g. slice_get cells i ≡ Some (open_at h.coroutine g r)) q o) in
            let b = k.size in
            let l : r < length own.registers = omega arith in
            subst (λ g. r < registers_in (h.base ++ lua (frame_so w own) ∷ []) g) (sym q) (subst (λ m. r < m) (sym (registers_top h.base (frame_so w own))) l))
            (λ q.
            let a : r < registers_of W.coroutines h.coroutine g = s.cells i (open_at h.coroutine g r) (k.still_open i h.coroutine g r o) in
            let b : registers_of W.coroutines h.coroutine g ≡ registers_in (h.base ++ lua h.top ∷ []) g = rw (h.frames, registers_of) refl in
            subst (λ m. r < m) (b ∙ registers_other h.base (lua h.top) (lua (frame_so w own)) g q) a)
            (cases_eq g (length h.base))

    abbrev pub new_world : World
    new_world = set_stack W cells h.coroutine (h.base ++ lua (frame_so w own) ∷ [])

    pub new_grows : Grows (sizes n W) (sizes n new_world)
    new_grows = stack_grows n W h.coroutine (h.base ++ lua h.top ∷ []) (h.base ++ lua (frame_so w own) ∷ []) cells h.frames new_fit

    pub new_solid : Solid n new_world
    new_solid = stack_solid n W h.coroutine (h.base ++ lua h.top ∷ []) (h.base ++ lua (frame_so w own) ∷ []) cells h.frames new_fit s new_frames

    pub new_top : RunsOrWaits u.runs (sizes n new_world) (frame_so w own) → TopIs n u new_world
    new_top r = record {
      coroutine = h.coroutine;
      base = h.base;
      top = frame_so w own;
      function = h.function;
      last = h.last;
      frames = stack_there n W h.coroutine (h.base ++ lua h.top ∷ []) (h.base ++ lua (frame_so w own) ∷ []) cells h.frames new_fit;
      there = h.there;
      below = each_waits_on (sizes n W) (sizes n new_world) new_grows h.base h.below;
      code = sym k.code;
      pc = k.pc;
      size = k.size;
      opened = k.opened;
      pending = k.bound;
      cells = k.cells_below;
      captured = k.captured;
      wait = r;
    }

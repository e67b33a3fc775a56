-- The moves by which a Lua frame on top waits for a call, is replaced by one, is left, or begins to be left.
use Rattle.std.proofs.Common.{ℕ, zero, suc, ◌<◌, ◌≤◌, ◌≡◌, List, [], ◌∷◌, ◌++◌, Option, Some, None, refl, subst, sym, ap, ◌∙◌, length, drop, arith, Bool, true, false, cond, length-append}
use Rattle.std.specs.Prelude.{slice_get, IsTrue, codes}
use Rattle.int_core.specs.Value.{string, Value, known, bind, last, greatest_string}
use Rattle.int_core.specs.Operations.{Callee, callee, not_callable, callee_of, greatest_chain}
use Rattle.code_core.specs.declared.opcode.Opcode.{Opcode}
use Rattle.code_core.specs.declared.instruction.Instruction.{Instruction}
use Rattle.code_core.specs.Prototype.{Prototype}
use Rattle.code_core.specs.Check.{at}
use Rattle.int_core.specs.Limits.{greatest_depth, string_fits}
use Rattle.machine_core.specs.World.{Cell, closed, open_at, Wait, running, leaving, Activation, Frame, lua, World, Stack, place_of, put_frames, pop, close_from}
use Rattle.machine_core.specs.Text.{Arg, arg, Own, close_cells, keep_pending, done, Given, results, thrown, given_values}
use Rattle.machine_core.specs.Moves.{enter, enter_tail, await, begin_leaving, leave_frame, CallShape, is_entered, is_primitive, not_paid, not_entered, top_shape, top_now, Made, made, move, named, cells_done, with_own, enters, enters_paid, called, popped, called_tail, placed, blamed, where_text}
use Rattle.machine_sound.specs.Sound.{Each, Sizes, sizes, Valid, WaitOk, waits_at, waiting_size, kept_below, FrameOk, LuaWaits, FrameWaits, registers_in, registers_of, Solid, Top, RunsOrWaits, TopIs, StackWaits}
use Rattle.machine_sound.specs.Safe.{on_lua, waiting, Is, IsPhase, TopReady, WaitArgOk, GivenOk, WaitsAs, after_all, after_entering, after_tail, MoveGood, AllReady}
use Rattle.machine_sound.proofs.Lists.{each_none, each_cons, each_one, each_push, each_front, each_drop, each_on, bind_at, without_push}
use Rattle.machine_sound.proofs.Values.{arg_valid, le_of}
use Rattle.machine_sound.proofs.Grow.{Grows, grows_then, values_on, valid_on, each_waits_on}
use Rattle.machine_sound.proofs.Own.{OwnIs, known_so, all_good, close_length, close_open, close_closed}
use Rattle.machine_sound.proofs.Frames.{set_stack, CellsFit, stack_grows, stack_solid, stack_there, the_place, place_is, frames_ok, top_ok, own_known, with_own_is, frame_so, new_grows, new_solid, new_top, new_world}
use Rattle.machine_sound.proofs.Moves.{made_so}
use Rattle.machine_sound.proofs.Heaps.{callee_ok, CalleeOk}
use Rattle.machine_sound.proofs.Outside.{heap_of, goes_still, outside_top, stays_self_ok}
use Rattle.machine_sound.proofs.Waits.{with_moving, moving_grows, moving_solid, moving_waits, waits_stack, registers_here, EnteredAs, enters_good}

-- a frame that waits as an argument says

waits_named : (env : List Value) (w : Wait Arg) (op : Opcode) (i : Instruction) → waits_at (named env w) op i ≡ waits_at w op i
waits_named env running op i = refl
waits_named env _ op i = refl

size_named : (env : List Value) (w : Wait Arg) (i : Instruction) (k : ℕ) → waiting_size (named env w) i k ≡ waiting_size w i k
size_named env running i k = refl
size_named env _ i k = refl

kept_named : (env : List Value) (w : Wait Arg) (i : Instruction) (k : ℕ) → kept_below (named env w) i k ≡ kept_below w i k
kept_named env running i k = refl
kept_named env _ i k = refl

error_named : (z : Sizes) (env : List Value) (w : Wait Arg) → Each (Valid z) env → WaitArgOk w → WaitOk z (named env w)
error_named z env (leaving x) h k = arg_valid z env x h k
error_named z env _ h k = tt

-- an activation that is known, of a frame that waits now
own_waits : (z : Sizes) (old : List Cell) (p : Prototype) (co k : ℕ) (t : Top) (own : Activation) (cells : List Cell) → OwnIs z old p co k t own cells → OwnIs z old p co k (record t { runs = false }) own cells
own_waits z old p co k t own cells h =
    known_so z old p co k [] (each_none (Valid z)) t own cells h own.pc t.pc false t.size t.opened own.opened t.pending own.registers own.pending h.pc h.opened h.size h.stack h.registers h.cells_there h.bound h.pending

-- all frames wait, where the one on top does
pub top_waits : (n : ℕ) (t : Top) (W : World) → t.runs ≡ false → TopIs n t W → StackWaits n W
top_waits n t W e h =
    let w : LuaWaits (sizes n W) h.top = subst (λ b. RunsOrWaits b (sizes n W) h.top) e h.wait in
    record { coroutine = h.coroutine; frames = h.base ++ lua h.top ∷ []; last = h.last; running = h.frames; waits = each_push (FrameWaits (sizes n W)) h.base (lua h.top) h.below w }

-- the frame on top, ready for a call
module _ (n : ℕ) (t : Top) (env : List Value) (W : World) (i : Is n (on_lua t) env W) (wait : Wait Arg) (prepared : List Own) (ready : AllReady prepared env t) (fit : WaitsAs wait (after_all prepared env t)) where
  abbrev h : TopIs n t W
  h = i.phase

  abbrev u : Top
  u = record (after_all prepared env t) { runs = false }

  abbrev own' : Activation
  own' = done prepared i.phase.function.code env i.phase.top.own

  abbrev cells' : List Cell
  cells' = cells_done prepared i.phase.function.code i.phase.coroutine (length i.phase.base) env i.phase.top.own W.cells

  pub know : OwnIs (sizes n W) W.cells h.function.code h.coroutine (length h.base) u own' cells'
  know = own_waits (sizes n W) W.cells h.function.code h.coroutine (length h.base) (after_all prepared env t) own' cells' (all_good (sizes n W) W.cells h.function.code h.coroutine (length h.base) env i.valid prepared t h.top.own W.cells ready (own_known n t W h i.solid))

  pub error : WaitOk (sizes n W) (named env wait)
  error = error_named (sizes n W) env wait i.valid fit.error

  abbrev pub ready_world : World
  ready_world = new_world n t W i.phase i.solid u (named env wait) own' cells' know error

  pub ready_grows : Grows (sizes n W) (sizes n ready_world)
  ready_grows = new_grows n t W i.phase i.solid u (named env wait) own' cells' know error

  pub ready_solid : Solid n ready_world
  ready_solid = new_solid n t W i.phase i.solid u (named env wait) own' cells' know error

  waits : (z : Sizes) → slice_get z.functions h.top.function ≡ Some h.function → LuaWaits z (frame_so n t W i.phase (named env wait) own')
  waits z there = record {
    function = h.function;
    there = there;
    instruction = fit.place.instruction;
    at_pc = ap (at h.function.code) know.pc ∙ ap (λ p. at p (after_all prepared env t).pc) (sym know.code) ∙ fit.place.at_pc;
    opcode = fit.place.opcode;
    is_opcode = fit.place.is_opcode;
    fits = subst (λ b. IsTrue b) (sym (waits_named env wait fit.place.opcode fit.place.instruction)) fit.fits;
    size = know.size ∙ fit.size ∙ sym (size_named env wait fit.place.instruction (after_all prepared env t).code.own.stack) ∙ ap (λ (p : Prototype). waiting_size (named env wait) fit.place.instruction p.own.stack) know.code;
    kept = each_on (λ r. r < (after_all prepared env t).pending) (λ r. r < kept_below (named env wait) fit.place.instruction h.function.code.own.stack)
        (λ r l. (let a = fit.kept in let b = kept_named env wait fit.place.instruction (after_all prepared env t).code.own.stack in let c = ap (λ (p : Prototype). kept_below (named env wait) fit.place.instruction p.own.stack) know.code in omega arith)) own'.pending know.bound;
    opened = know.opened ∙ fit.opened;
  }

  pub ready_top : TopIs n u ready_world
  ready_top = new_top n t W i.phase i.solid u (named env wait) own' cells' know error (waits (sizes n ready_world) h.there)

  pub ready_is : with_own W (the_place n t W i.phase) (named env wait) prepared env ≡ ready_world
  ready_is = with_own_is n t W i.phase (named env wait) prepared env

-- calls

entered_phase : (n : ℕ) (P V : World) (t u : Top) (s : CallShape) → TopIs n (record u { runs = false }) P → EnteredAs n P V s → IsPhase n (after_entering s t u) V
entered_phase n P V t u is_entered h k = k
entered_phase n P V t u (is_primitive m) h k = k
entered_phase n P V t u not_paid h k = absurd k
entered_phase n P V t u (not_entered text) h k = rw k h

pub fuel_top : (n : ℕ) (t : Top) (W : World) (vs : List Value) (fuel : ℕ) → Solid n W → TopIs n t W → Each (Valid (sizes n W)) vs → TopIs n t (with_moving W vs fuel)
fuel_top n t W vs fuel s h v = outside_top n W W.heap W.functions vs fuel (stays_self_ok n W vs fuel s v) t h

pub enter_move : (n : ℕ) (f : Arg) (slot : ℕ) (wait : Wait Arg) (prepared : List Own) (t : Top) (env : List Value) (W : World) → Is n (on_lua t) env W → TopReady t env (enter f slot wait prepared) → MoveGood n (on_lua t) env (enter f slot wait prepared) W
enter_move n f slot wait prepared t env W i r =
    from (callee_of greatest_chain W.heap (arg env f) (drop slot env)) refl
    (callee_ok (sizes n W) W.heap (heap_of n W i.solid) greatest_chain (arg env f) (drop slot env) (arg_valid (sizes n W) env f i.valid r.callee) (each_drop (Valid (sizes n W)) slot env i.valid)) W.fuel refl
  where
    P : World
    P = ready_world n t env W i wait prepared r.prepares r.waits

    solid : Solid n (ready_world n t env W i wait prepared r.prepares r.waits)
    solid = ready_solid n t env W i wait prepared r.prepares r.waits

    top : TopIs n (record (after_all prepared env t) { runs = false }) (ready_world n t env W i wait prepared r.prepares r.waits)
    top = ready_top n t env W i wait prepared r.prepares r.waits

    grows : Grows (sizes n W) (sizes n (ready_world n t env W i wait prepared r.prepares r.waits))
    grows = ready_grows n t env W i wait prepared r.prepares r.waits

    is : (c : Callee) → callee_of greatest_chain W.heap (arg env f) (drop slot env) ≡ c → move (enter f slot wait prepared) env W ≡ enters_paid W (ready_world n t env W i wait prepared r.prepares r.waits) c
    is c e =
        bind_at (λ p. called W (with_own W p (named env wait) prepared env) (arg env f) (drop slot env)) (place_of W) (the_place n t W i.phase) (place_is n t W i.phase)
        ∙ ap (λ P. called W P (arg env f) (drop slot env)) (ready_is n t env W i wait prepared r.prepares r.waits)
        ∙ ap (enters_paid W (ready_world n t env W i wait prepared r.prepares r.waits)) e

    from : (c : Callee) → callee_of greatest_chain W.heap (arg env f) (drop slot env) ≡ c → CalleeOk (sizes n W) W.heap (heap_of n W i.solid) c → (fuel : ℕ) → W.fuel ≡ fuel → MoveGood n (on_lua t) env (enter f slot wait prepared) W
    from (not_callable text) e k fuel q = record {
      event = not_entered text;
      world = ready_world n t env W i wait prepared r.prepares r.waits;
      is = is (not_callable text) e;
      holds = made_so n (on_lua t) (on_lua (record (after_all prepared env t) { runs = false })) env [] W (ready_world n t env W i wait prepared r.prepares r.waits) i grows solid top (each_none (Valid (sizes n (ready_world n t env W i wait prepared r.prepares r.waits))));
    }
    from (callee g vs) e k zero q = record {
      event = not_paid;
      world = W;
      is = is (callee g vs) e ∙ ap (λ (x : ℕ). elim x as (λ _. Option (Made CallShape)) [ zero ↦ made W [] not_paid | suc fuel ↦ enters (record (ready_world n t env W i wait prepared r.prepares r.waits) { fuel = fuel }) g vs ]) q;
      holds = goes_still n t env [] W i (each_none (Valid (sizes n W)));
    }
    from (callee g vs) e k (suc fuel) q =
        let Q = with_moving (ready_world n t env W i wait prepared r.prepares r.waits) W.moving fuel in
        let gr = grows_then (sizes n W) (sizes n (ready_world n t env W i wait prepared r.prepares r.waits)) (sizes n Q) grows (moving_grows n (ready_world n t env W i wait prepared r.prepares r.waits) W.moving fuel) in
        let qs = moving_solid n (ready_world n t env W i wait prepared r.prepares r.waits) W.moving fuel solid solid.moving in
        let qt = fuel_top n (record (after_all prepared env t) { runs = false }) (ready_world n t env W i wait prepared r.prepares r.waits) W.moving fuel solid top solid.moving in
        let x = enters_good n Q qs (top_waits n (record (after_all prepared env t) { runs = false }) Q refl qt) vs (values_on (sizes n W) (sizes n Q) gr vs k.2) g (valid_on (sizes n W) (sizes n Q) gr g k.0) k.1 in
        record {
          event = x.shape;
          world = x.world;
          is = is (callee g vs) e ∙ ap (λ (x : ℕ). elim x as (λ _. Option (Made CallShape)) [ zero ↦ made W [] not_paid | suc fuel ↦ enters (record (ready_world n t env W i wait prepared r.prepares r.waits) { fuel = fuel }) g vs ]) q ∙ x.is;
          holds = made_so n (on_lua t) (after_entering x.shape t (after_all prepared env t)) env [] W x.world i (grows_then (sizes n W) (sizes n Q) (sizes n x.world) gr x.grows) x.solid (entered_phase n Q x.world t (after_all prepared env t) x.shape qt x.as') (each_none (Valid (sizes n x.world)));
        }

-- the frame waits, and what it asks for moves
pub await_move : (n : ℕ) (f : Arg) (slot : ℕ) (wait : Wait Arg) (prepared : List Own) (t : Top) (env : List Value) (W : World) → Is n (on_lua t) env W → TopReady t env (await f slot wait prepared) → MoveGood n (on_lua t) env (await f slot wait prepared) W
await_move n f slot wait prepared t env W i r =
    let P = ready_world n t env W i wait prepared r.prepares r.waits in
    let gr = ready_grows n t env W i wait prepared r.prepares r.waits in
    let ps = ready_solid n t env W i wait prepared r.prepares r.waits in
    let top = ready_top n t env W i wait prepared r.prepares r.waits in
    let vs = arg env f ∷ drop slot env in
    let V = with_moving P vs P.fuel in
    let valid = values_on (sizes n W) (sizes n P) gr vs (each_cons (Valid (sizes n W)) (arg env f) (drop slot env) (arg_valid (sizes n W) env f i.valid r.callee) (each_drop (Valid (sizes n W)) slot env i.valid)) in
    record {
      event = tt;
      world = V;
      is = bind_at _ (place_of W) (the_place n t W i.phase) (place_is n t W i.phase) ∙ ap (λ P. made (record P { moving = vs }) [] tt) (ready_is n t env W i wait prepared r.prepares r.waits);
      holds = made_so n (on_lua t) (waiting None) env [] W V i (grows_then (sizes n W) (sizes n P) (sizes n V) gr (moving_grows n P vs P.fuel)) (moving_solid n P vs P.fuel ps valid)
          (record { all = moving_waits n P vs P.fuel (top_waits n (record (after_all prepared env t) { runs = false }) P refl top); top = tt }) (each_none (Valid (sizes n V)));
    }

-- leaving

-- the frames below the one on top, whose cells are closed
module _ (n : ℕ) (t : Top) (W : World) (s : Solid n W) (h : TopIs n t W) where
  abbrev pub left_cells : List Cell
  left_cells = close_from h.coroutine (length h.base) 0 h.top.own.registers W.cells

  abbrev pub left_world : World
  left_world = set_stack W (close_from h.coroutine (length h.base) 0 h.top.own.registers W.cells) h.coroutine h.base

  registers_front : (base : List Frame) (x : Frame) (g : ℕ) → (g ≡ length base → ⊥) → registers_in (base ++ x ∷ []) g ≡ registers_in base g
  registers_front [] x zero q = absurd (q refl)
  registers_front [] x (suc g) q = refl
  registers_front (b ∷ base) x zero q = refl
  registers_front (b ∷ base) x (suc g) q = registers_front base x g (λ e. q (ap suc e))

  pub left_fit : CellsFit n W h.coroutine h.base left_cells
  left_fit = record {
    count = close_length h.coroutine (length h.base) 0 h.top.own.registers W.cells;
    still_open = λ i d g r e. (close_open h.coroutine (length h.base) 0 h.top.own.registers W.cells i d g r e).0;
    closed_ok = close_closed (Valid (sizes n W)) tt h.coroutine (length h.base) 0 h.top.own.registers W.cells (top_ok n t W h s).registers (λ i v e. s.cells i (closed v) e);
    there = λ i g r e.
        let c = close_open h.coroutine (length h.base) 0 h.top.own.registers W.cells i h.coroutine g r e in
        let a : r < registers_of W.coroutines h.coroutine g = s.cells i (open_at h.coroutine g r) c.0 in
        let b : g ≡ length h.base → ⊥ = (λ q. let l = c.1 refl q in omega arith) in
        subst (λ m. r < m) (registers_here W h.coroutine (h.base ++ lua h.top ∷ []) g h.frames ∙ registers_front h.base (lua h.top) g b) a;
  }

  pub left_grows : Grows (sizes n W) (sizes n left_world)
  left_grows = stack_grows n W h.coroutine (h.base ++ lua h.top ∷ []) h.base left_cells h.frames left_fit

  pub left_solid : Solid n left_world
  left_solid = stack_solid n W h.coroutine (h.base ++ lua h.top ∷ []) h.base left_cells h.frames left_fit s
      (record { each = each_front (FrameOk (sizes n W)) h.base (lua h.top ∷ []) (frames_ok n t W h s).each; depth = (let a = (frames_ok n t W h s).depth in let b = length-append h.base (lua h.top ∷ []) in omega arith) })

  abbrev pub left_waits : StackWaits n left_world
  left_waits = record {
    coroutine = h.coroutine;
    frames = h.base;
    last = h.last;
    running = stack_there n W h.coroutine (h.base ++ lua h.top ∷ []) h.base left_cells h.frames left_fit;
    waits = each_waits_on (sizes n W) (sizes n left_world) left_grows h.base h.below;
  }

  pub left_room : length h.base < greatest_depth
  left_room = let a = (frames_ok n t W h s).depth in let b = length-append h.base (lua h.top ∷ []) in omega arith

  pub left_is : popped W (the_place n t W h) ≡ left_world
  unfolding pop put_frames popped
  left_is = rw (without_push h.base (lua h.top)) refl

given_ok : (z : Sizes) (env : List Value) (g : Given) → Each (Valid z) env → GivenOk g → Each (Valid z) (given_values env g)
given_ok z env (results slot) h k = each_drop (Valid z) slot env h
given_ok z env (thrown x) h k = each_one (Valid z) (arg env x) (arg_valid z env x h k)

pub leave_move : (n : ℕ) (given : Given) (t : Top) (env : List Value) (W : World) → Is n (on_lua t) env W → TopReady t env (leave_frame given) → MoveGood n (on_lua t) env (leave_frame given) W
leave_move n given t env W i r =
    let h = i.phase in
    let s = i.solid in
    let P = left_world n t W s h in
    let vs = given_values env given in
    let V = with_moving P vs P.fuel in
    let gr = left_grows n t W s h in
    let g = grows_then (sizes n W) (sizes n P) (sizes n V) gr (moving_grows n P vs P.fuel) in
    let valid = values_on (sizes n W) (sizes n P) gr vs (given_ok (sizes n W) env given i.valid r) in
    let w = moving_waits n P vs P.fuel (left_waits n t W s h) in
    let shape = top_shape V (last h.base) in
    record {
      event = shape;
      world = V;
      is = bind_at _ (place_of W) (the_place n t W h) (place_is n t W h)
          ∙ ap (λ P. bind (top_now (record P { moving = vs })) (λ top. made (record P { moving = vs }) [] top)) (left_is n t W s h)
          ∙ ap (λ (o : Option Stack). bind (bind o (λ s. Some (top_shape V (last s.frames)))) (λ top. made V [] top)) (waits_stack n V w);
      holds = made_so n (on_lua t) (waiting (Some shape)) env [] W V i g (moving_solid n P vs P.fuel (left_solid n t W s h) valid) (record { all = w; top = refl }) (each_none (Valid (sizes n V)));
    }

-- a call in place of the frame

tail_phase : (n : ℕ) (P V : World) (t : Top) (s : CallShape) → ((text : List ℕ) → s ≡ not_entered text → ⊥) → EnteredAs n P V s → IsPhase n (after_tail s t) V
tail_phase n P V t is_entered e k = k
tail_phase n P V t (is_primitive m) e k = k
tail_phase n P V t not_paid e k = absurd k
tail_phase n P V t (not_entered text) e k = absurd (e text refl)

pub enter_tail_move : (n : ℕ) (f : Arg) (slot : ℕ) (t : Top) (env : List Value) (W : World) → Is n (on_lua t) env W → TopReady t env (enter_tail f slot) → MoveGood n (on_lua t) env (enter_tail f slot) W
enter_tail_move n f slot t env W i r =
    from (callee_of greatest_chain W.heap (arg env f) (drop slot env)) refl
    (callee_ok (sizes n W) W.heap (heap_of n W i.solid) greatest_chain (arg env f) (drop slot env) (arg_valid (sizes n W) env f i.valid r) (each_drop (Valid (sizes n W)) slot env i.valid)) W.fuel refl
  where
    is : (c : Callee) → callee_of greatest_chain W.heap (arg env f) (drop slot env) ≡ c → move (enter_tail f slot) env W ≡ called_tail W (the_place n t W i.phase) c
    is c e =
        bind_at (λ p. called_tail W p (callee_of greatest_chain W.heap (arg env f) (drop slot env))) (place_of W) (the_place n t W i.phase) (place_is n t W i.phase)
        ∙ ap (called_tail W (the_place n t W i.phase)) e

    from : (c : Callee) → callee_of greatest_chain W.heap (arg env f) (drop slot env) ≡ c → CalleeOk (sizes n W) W.heap (heap_of n W i.solid) c → (fuel : ℕ) → W.fuel ≡ fuel → MoveGood n (on_lua t) env (enter_tail f slot) W
    from (not_callable text) e k fuel q = record {
      event = not_entered text;
      world = W;
      is = is (not_callable text) e;
      holds = goes_still n t env [] W i (each_none (Valid (sizes n W)));
    }
    from (callee g vs) e k zero q = record {
      event = not_paid;
      world = W;
      is = is (callee g vs) e ∙ ap (λ (x : ℕ). elim x as (λ _. Option (Made CallShape)) [ zero ↦ made W [] not_paid | suc fuel ↦ enters (record (popped W (the_place n t W i.phase)) { fuel = fuel }) g vs ]) q;
      holds = goes_still n t env [] W i (each_none (Valid (sizes n W)));
    }
    from (callee g vs) e k (suc fuel) q =
        let h = i.phase in
        let s = i.solid in
        let P = left_world n t W s h in
        let Q = with_moving P W.moving fuel in
        let gr = grows_then (sizes n W) (sizes n P) (sizes n Q) (left_grows n t W s h) (moving_grows n P W.moving fuel) in
        let ps = left_solid n t W s h in
        let qs = moving_solid n P W.moving fuel ps ps.moving in
        let w = moving_waits n P W.moving fuel (left_waits n t W s h) in
        let x = enters_good n Q qs w vs (values_on (sizes n W) (sizes n Q) gr vs k.2) g (valid_on (sizes n W) (sizes n Q) gr g k.0) k.1 in
        let room : (text : List ℕ) → x.shape ≡ not_entered text → ⊥ = (λ text e. let a = x.room text e in let b = left_room n t W s h in omega arith) in
        record {
          event = x.shape;
          world = x.world;
          is = is (callee g vs) e ∙ ap (λ (x : ℕ). elim x as (λ _. Option (Made CallShape)) [ zero ↦ made W [] not_paid | suc fuel ↦ enters (record (popped W (the_place n t W i.phase)) { fuel = fuel }) g vs ]) q
              ∙ ap (λ P. enters (record P { fuel = fuel }) g vs) (left_is n t W s h) ∙ x.is;
          holds = made_so n (on_lua t) (after_tail x.shape t) env [] W x.world i (grows_then (sizes n W) (sizes n Q) (sizes n x.world) gr x.grows) x.solid (tail_phase n Q x.world t x.shape room x.as') (each_none (Valid (sizes n x.world)));
        }

-- a frame whose own step is at fault

short_enough : (text : List ℕ) → length (cond (string_fits text) text (codes "resulting string too large")) ≤ greatest_string
short_enough text = pick (string_fits text) refl
  where
    pick : (b : Bool) → string_fits text ≡ b → length (cond b text (codes "resulting string too large")) ≤ greatest_string
    pick true e = le_of (length text) greatest_string e
    pick false e = le_of _ greatest_string refl

pub blamed_valid : (z : Sizes) (W : World) (text : List ℕ) → Valid z (blamed W text)
blamed_valid z W text = short_enough (where_text W 0 ++ text)

pub placed_valid : (z : Sizes) (W : World) (level : ℕ) (v : Value) → Valid z v → Valid z (placed W level v)
placed_valid z W level (known (string text)) h = short_enough (where_text W level ++ text)
placed_valid z W level _ h = h

pub begin_leaving_move : (n : ℕ) (text : List ℕ) (t : Top) (env : List Value) (W : World) → Is n (on_lua t) env W → TopReady t env (begin_leaving text) → MoveGood n (on_lua t) env (begin_leaving text) W
begin_leaving_move n text t env W i r =
    let h = i.phase in
    let e = blamed W text in
    let ms = close_cells 0 ∷ keep_pending ∷ [] in
    let u : Top = record t { cells = 0; captured = []; size = t.code.own.stack; opened = 0; runs = false } in
    let own' = done ms h.function.code [] h.top.own in
    let cells' = cells_done ms h.function.code h.coroutine (length h.base) [] h.top.own W.cells in
    let k = own_waits (sizes n W) W.cells h.function.code h.coroutine (length h.base) (after_all ms [] t) own' cells' (all_good (sizes n W) W.cells h.function.code h.coroutine (length h.base) [] (each_none (Valid (sizes n W))) ms t h.top.own W.cells (tt, (omega arith, tt)) (own_known n t W h i.solid)) in
    let ok = blamed_valid (sizes n W) W text in
    let P = new_world n t W h i.solid u (leaving e) own' cells' k ok in
    let gr = new_grows n t W h i.solid u (leaving e) own' cells' k ok in
    let ps = new_solid n t W h i.solid u (leaving e) own' cells' k ok in
    let w : LuaWaits (sizes n P) (frame_so n t W h (leaving e) own') = record {
      function = h.function;
      there = h.there;
      instruction = r.instruction;
      at_pc = ap (at h.function.code) k.pc ∙ ap (λ p. at p t.pc) h.code ∙ r.at_pc;
      opcode = r.opcode;
      is_opcode = r.is_opcode;
      fits = refl;
      size = k.size ∙ ap (λ (p : Prototype). p.own.stack) (sym h.code);
      kept = k.pending;
      opened = k.opened;
    } in
    let top = new_top n t W h i.solid u (leaving e) own' cells' k ok w in
    let V = with_moving P (e ∷ []) P.fuel in
    let valid : Each (Valid (sizes n P)) (e ∷ []) = each_one (Valid (sizes n P)) e (blamed_valid (sizes n P) W text) in
    record {
      event = tt;
      world = V;
      is = bind_at _ (place_of W) (the_place n t W h) (place_is n t W h) ∙ ap (λ P. made (record P { moving = e ∷ [] }) [] tt) (with_own_is n t W h (leaving e) ms []);
      holds = made_so n (on_lua t) (waiting None) env [] W V i (grows_then (sizes n W) (sizes n P) (sizes n V) gr (moving_grows n P (e ∷ []) P.fuel)) (moving_solid n P (e ∷ []) P.fuel ps valid)
          (record { all = moving_waits n P (e ∷ []) P.fuel (top_waits n u P refl top); top = tt }) (each_none (Valid (sizes n V)));
    }

-- Worlds in which every frame of the running coroutine waits, and a callee that is entered in one.
use Rattle.std.proofs.Common.{ℕ, zero, suc, ◌+◌, ◌<◌, ◌≤◌, ◌≡◌, List, [], ◌∷◌, ◌++◌, Option, Some, None, refl, subst, sym, ap, ◌∙◌, length, take, drop, arith, Bool, true, false, cond, length-append}
use Rattle.std.specs.Prelude.{slice_get, nat_le, nat_lt, IsTrue, IsSome}
use Rattle.std.proofs.lemmas.Bool.Decides.{nat_tests}
use Rattle.int_core.specs.Value.{Value, known, primitive, object, a_function, fitted}
use Rattle.int_core.proofs.ValueLemmas.{length_fitted}
use Rattle.int_core.specs.Limits.{greatest_depth, stack_overflow}
use Rattle.int_core.specs.Operations.{is_function}
use Rattle.code_core.specs.declared.instruction.Instruction.{Instruction}
use Rattle.code_core.specs.Prototype.{Prototype}
use Rattle.code_core.specs.Check.{IsChecked, at}
use Rattle.machine_core.specs.World.{Function, closed, open_at, running, LuaFrame, Frame, lua, in_progress, World, Stack, stack_of, put_frames, push, find_open}
use Rattle.machine_core.specs.Moves.{CallShape, is_entered, is_primitive, not_paid, not_entered, Made, made, new_frame, push_all, has_room, enters}
use Rattle.machine_sound.specs.Sound.{Each, sizes, Valid, LuaOk, FrameOk, registers_in, registers_of, Solid, Settled, StackWaits}
use Rattle.machine_sound.specs.Safe.{Calls}
use Rattle.machine_sound.proofs.Lists.{each_none, each_push, each_drop, each_take, bind_at, get_there, get_front}
use Rattle.machine_sound.proofs.Values.{lt_of, le_of, both_of, each_fitted}
use Rattle.machine_sound.proofs.Grow.{Grows, grows_self, each_waits_on}
use Rattle.machine_sound.proofs.Frames.{set_stack, CellsFit, stack_grows, stack_solid, stack_there, stack_is}
use Rattle.machine_sound.proofs.Rules.{opcode_there, first_no_extra}
use Rattle.machine_sound.proofs.Outside.{outside_solid, stays_self_ok}

-- other values on their way, and other fuel
abbrev pub with_moving : World → List Value → ℕ → World
with_moving W vs fuel = record W { moving = vs; fuel = fuel }

pub moving_grows : (n : ℕ) (W : World) (vs : List Value) (fuel : ℕ) → Grows (sizes n W) (sizes n (with_moving W vs fuel))
moving_grows n W vs fuel = record { primitives = refl; tables = omega arith; some = omega arith; functions = λ i f e. e; cells = omega arith; coroutines = omega arith }

pub moving_solid : (n : ℕ) (W : World) (vs : List Value) (fuel : ℕ) → Solid n W → Each (Valid (sizes n W)) vs → Solid n (with_moving W vs fuel)
moving_solid n W vs fuel s h = outside_solid n W W.heap W.functions vs fuel (stays_self_ok n W vs fuel s h) s

abbrev pub moving_waits : (n : ℕ) (W : World) (vs : List Value) (fuel : ℕ) → StackWaits n W → StackWaits n (with_moving W vs fuel)
moving_waits n W vs fuel h = record { coroutine = h.coroutine; frames = h.frames; last = h.last; running = h.running; waits = each_waits_on (sizes n W) (sizes n (with_moving W vs fuel)) (moving_grows n W vs fuel) h.frames h.waits }

pub waits_stack : (n : ℕ) (W : World) (h : StackWaits n W) → stack_of W ≡ Some (record { coroutine = h.coroutine; frames = h.frames })
waits_stack n W h = stack_is W h.coroutine h.frames h.last h.running

-- frames of their own in a solid world

registers_pushed : (frames : List Frame) (x : Frame) (g : ℕ) → g < length frames → registers_in (frames ++ x ∷ []) g ≡ registers_in frames g
registers_pushed frames x g l = rw (get_front frames (x ∷ []) g l, registers_in) refl

within_frames : (frames : List Frame) (g r : ℕ) → r < registers_in frames g → g < length frames
within_frames [] g r h = absurd (omega arith)
within_frames (f ∷ frames) zero r h = omega arith
within_frames (f ∷ frames) (suc g) r h = let k = within_frames frames g r h in omega arith

pub registers_here : (W : World) (co : ℕ) (frames : List Frame) (g : ℕ) → slice_get W.coroutines co ≡ Some (in_progress frames) → registers_of W.coroutines co g ≡ registers_in frames g
registers_here W co frames g e = rw (e, registers_of) refl

-- a frame that is pushed
module _ (n : ℕ) (W : World) (s : Solid n W) (h : StackWaits n W) (x : Frame) (ok : FrameOk (sizes n W) x) (room : length h.frames < greatest_depth) where
  abbrev pub pushed : World
  pushed = set_stack W W.cells h.coroutine (h.frames ++ x ∷ [])

  pub pushed_fit : CellsFit n W h.coroutine (h.frames ++ x ∷ []) W.cells
  pushed_fit = record {
    count = refl;
    still_open = λ i d g r e. e;
    closed_ok = λ i v e. s.cells i (closed v) e;
    there = λ i g r e.
        let a : r < registers_of W.coroutines h.coroutine g = s.cells i (open_at h.coroutine g r) e in
        let b : r < registers_in h.frames g = subst (λ m. r < m) (registers_here W h.coroutine h.frames g h.running) a in
        subst (λ m. r < m) (sym (registers_pushed h.frames x g (within_frames h.frames g r b))) b;
  }

  pub pushed_grows : Grows (sizes n W) (sizes n pushed)
  pushed_grows = stack_grows n W h.coroutine h.frames (h.frames ++ x ∷ []) W.cells h.running pushed_fit

  pub pushed_solid : Solid n pushed
  pushed_solid = stack_solid n W h.coroutine h.frames (h.frames ++ x ∷ []) W.cells h.running pushed_fit s
      (record { each = each_push (FrameOk (sizes n W)) h.frames x (s.coroutines h.coroutine (in_progress h.frames) h.running).each ok; depth = let a = length-append h.frames (x ∷ []) in omega arith })

  pub pushed_there : slice_get pushed.coroutines h.coroutine ≡ Some (in_progress (h.frames ++ x ∷ []))
  pushed_there = stack_there n W h.coroutine h.frames (h.frames ++ x ∷ []) W.cells h.running pushed_fit

  -- no cell is open in it yet
  pub pushed_cells : (i r : ℕ) → slice_get W.cells i ≡ Some (open_at h.coroutine (length h.frames) r) → ⊥
  pushed_cells i r e =
      let a : r < registers_of W.coroutines h.coroutine (length h.frames) = s.cells i (open_at h.coroutine (length h.frames) r) e in
      let b : r < registers_in h.frames (length h.frames) = subst (λ m. r < m) (registers_here W h.coroutine h.frames (length h.frames) h.running) a in
      let c = within_frames h.frames (length h.frames) r b in
      omega arith

pub push_is : (W : World) (s : Stack) (x : Frame) → push W s x ≡ set_stack W W.cells s.coroutine (s.frames ++ x ∷ [])
unfolding push put_frames
push_is W s x = refl

-- entering

-- a callee was entered, or a primitive is to be called, or there was no room
abbrev pub EnteredAs : ℕ → World → World → CallShape → Type 0
EnteredAs n P V is_entered = Settled n V
EnteredAs n P V (is_primitive m) = Calls n m V
EnteredAs n P V not_paid = ⊥
EnteredAs n P V (not_entered text) = V ≡ P

pub record Entered (n : ℕ) (P : World) (depth : ℕ) (o : Option (Made CallShape)) : Type 0 where
  pub shape : CallShape
  pub world : World
  pub is : o ≡ Some (record { world = world; values = []; told = shape })
  pub grows : Grows (sizes n P) (sizes n world)
  pub solid : Solid n world
  pub as' : EnteredAs n P world shape
  pub room : (text : List ℕ) → shape ≡ not_entered text → greatest_depth ≤ depth

first_there : (p : Prototype) → IsChecked p → (w : Instruction) × (at p 0 ≡ Some w)
first_there p h = let a = (both_of (nat_lt 0 (length p.own.code)) _ h.code.sized).0 in get_there p.own.code 0 (lt_of 0 (length p.own.code) a)

each_cond : (P : Value → Type 0) (b : Bool) (vs : List Value) → Each P vs → Each P (cond b vs [])
each_cond P true vs h = h
each_cond P false vs h = each_none P

module _ (n : ℕ) (P : World) (s : Solid n P) (h : StackWaits n P) (vs : List Value) (valid : Each (Valid (sizes n P)) vs) where
  module _ (m : ℕ) (g : Function) (there : slice_get P.functions m ≡ Some g) (room : length h.frames < greatest_depth) where
    abbrev new : LuaFrame
    new = record { function = m; wait = running; own = record { pc = 0; registers = fitted g.code.own.stack (take g.code.own.params vs); varargs = cond g.code.own.vararg (drop g.code.own.params vs) []; pending = []; opened = 0 } }

    new_ok : LuaOk (sizes n P) new
    new_ok =
        let z = sizes n P in
        record {
          function = g;
          there = there;
          stack = (let a = length_fitted g.code.own.stack (take g.code.own.params vs) in omega arith);
          registers = each_fitted (Valid z) tt g.code.own.stack (take g.code.own.params vs) (each_take (Valid z) g.code.own.params vs valid);
          varargs = each_cond (Valid z) g.code.own.vararg (drop g.code.own.params vs) (each_drop (Valid z) g.code.own.params vs valid);
          pending = each_none (λ r. r < g.code.own.stack);
          error = tt;
        }

    abbrev V : World
    V = pushed n P s h (lua new) new_ok room

    settled : Settled n V
    settled =
        let w = first_there g.code (s.functions m g there).code in
        let op = opcode_there g.code 0 w.0 (s.functions m g there).code.code w.1 in
        record {
          top = record { code = g.code; pc = 0; size = g.code.own.stack; opened = 0; pending = 0; cells = 0; captured = []; runs = true };
          is_top = record {
            coroutine = h.coroutine;
            base = h.frames;
            top = new;
            function = g;
            last = h.last;
            frames = pushed_there n P s h (lua new) new_ok room;
            there = there;
            below = each_waits_on (sizes n P) (sizes n V) (pushed_grows n P s h (lua new) new_ok room) h.frames h.waits;
            code = refl;
            pc = refl;
            size = length_fitted g.code.own.stack (take g.code.own.params vs);
            opened = refl;
            pending = each_none (λ r. r < 0);
            cells = λ i r e. absurd (pushed_cells n P s h (lua new) new_ok room i r e);
            captured = each_none (λ r. IsSome (find_open h.coroutine (length h.frames) r V.cells));
            wait = refl;
          };
          fits = record { instruction = w.0; at_pc = w.1; opcode = op.0; is_opcode = op.1; no_extra = first_no_extra g.code w.0 op.0 (s.functions m g there).code.code w.1 op.1; fits_mark = (refl, refl); cells = omega arith };
        }

    entered : Entered n P (length h.frames) (made (push_all P (new_frame m g.code vs ∷ [])) [] is_entered)
    entered = record {
      shape = is_entered;
      world = V;
      is = ap (λ (o : Option Stack). made (elim o as (λ _. World) [ None ↦ P | Some s ↦ push P s (lua new) ]) [] is_entered) (waits_stack n P h) ∙ ap (λ V. made V [] is_entered) (push_is P (record { coroutine = h.coroutine; frames = h.frames }) (lua new));
      grows = pushed_grows n P s h (lua new) new_ok room;
      solid = pushed_solid n P s h (lua new) new_ok room;
      as' = settled;
      room = λ text e. absurd (cc);
    }

  room_is : has_room P 1 ≡ nat_le (length h.frames + 1) greatest_depth
  room_is = ap (λ (o : Option Stack). elim o as (λ _. Bool) [ None ↦ false | Some s ↦ nat_le (length s.frames + 1) greatest_depth ]) (waits_stack n P h)

  enters_function : (m : ℕ) → m < length P.functions → Entered n P (length h.frames) (enters P (object a_function m) vs)
  enters_function m l = from (nat_le (length h.frames + 1) greatest_depth) refl
    where
      g : (f : Function) × (slice_get P.functions m ≡ Some f)
      g = get_there P.functions m l

      is : (b : Bool) → nat_le (length h.frames + 1) greatest_depth ≡ b → enters P (object a_function m) vs ≡ cond b (made (push_all P (new_frame m (get_there P.functions m l).0.code vs ∷ [])) [] is_entered) (made P [] (not_entered stack_overflow))
      is b e =
          bind_at _ (slice_get P.functions m) (get_there P.functions m l).0 (get_there P.functions m l).1
          ∙ ap (λ b. cond b (made (push_all P (new_frame m (get_there P.functions m l).0.code vs ∷ [])) [] is_entered) (made P [] (not_entered stack_overflow))) (room_is ∙ e)

      from : (b : Bool) → nat_le (length h.frames + 1) greatest_depth ≡ b → Entered n P (length h.frames) (enters P (object a_function m) vs)
      from true e =
          let x = entered m (get_there P.functions m l).0 (get_there P.functions m l).1 (let k = le_of (length h.frames + 1) greatest_depth e in omega arith) in
          record { shape = x.shape; world = x.world; is = is true e ∙ x.is; grows = x.grows; solid = x.solid; as' = x.as'; room = x.room }
      from false e = record { shape = not_entered stack_overflow; world = P; is = is false e; grows = grows_self (sizes n P); solid = s; as' = refl; room = λ text q. grind (arith, nat_tests) }

  -- a function that can be entered
  pub enters_good : (f : Value) → Valid (sizes n P) f → IsTrue (is_function f) → Entered n P (length h.frames) (enters P f vs)
  enters_good (known (primitive m)) v t = record {
    shape = is_primitive m;
    world = with_moving P vs P.fuel;
    is = refl;
    grows = moving_grows n P vs P.fuel;
    solid = moving_solid n P vs P.fuel s valid;
    as' = record { all = moving_waits n P vs P.fuel h; there = v };
    room = λ text e. absurd (cc);
  }
  enters_good (object a_function m) v t = enters_function m v
  enters_good _ v t = absurd (cc)

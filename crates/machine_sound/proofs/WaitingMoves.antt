-- Moves where all frames of the running coroutine wait: looking at them, values on their way, frames that are no Lua function's.
use Rattle.std.proofs.Common.{ℕ, zero, suc, ◌+◌, ◌-◌, ◌<◌, ◌≤◌, ◌≡◌, List, [], ◌∷◌, ◌++◌, Option, Some, None, refl, subst, sym, ap, ◌∙◌, length, drop, reverse, arith, Bool, true, false, cond, length-append}
use Rattle.std.specs.Prelude.{slice_get, nat_le}
use Rattle.int_core.specs.Value.{Value, last, without_last, error_or_nil}
use Rattle.int_core.specs.Limits.{greatest_depth}
use Rattle.int_core.specs.Operations.{Callee, callee, not_callable, callee_of, greatest_chain, handler_in, of_close}
use Rattle.machine_core.specs.World.{closed, open_at, Frame, lua, pcall, xpcall, handler, closing, in_progress, World, lua_frame, Stack, stack_of, put_frames, put_top, push, pop}
use Rattle.machine_core.specs.Text.{Arg, arg, args_of}
use Rattle.machine_core.specs.Moves.{Over, over_pcall, over_xpcall, over_handler, frame_over, Move, take_moving, look, give, give_with, blame, find_close, place_text, push_frame, call_value, see_top, see_catcher, pop_frame, take_closing, set_error, CallShape, is_entered, is_primitive, not_paid, not_entered, TopShape, closing_top, no_top, top_shape, top_now, runs_main, catcher, handler_value, next_closing, with_error, push_all, has_room, enters_paid, enters, placed, blamed, Made, made, move, ClosingShape, one_left}
use Rattle.machine_sound.specs.Sound.{Each, Sizes, sizes, Valid, OptionOk, FrameOk, FrameWaits, FramesOk, registers_in, Solid, StackWaits}
use Rattle.machine_sound.specs.Safe.{on_lua, waiting, Is, IsPhase, WaitsUnder, seen_lua, seen_other, takes_one, takes_none, takes_error, IsNoLua, IsOther, OverOk, WaitingReady, after_catcher, after_over, MoveGood}
use Rattle.machine_sound.proofs.Lists.{each_none, each_cons, each_one, each_push, each_last, each_drop, each_take, each_tail, each_append, bind_at, last_push, last_splits}
use Rattle.machine_sound.proofs.Values.{arg_valid, args_valid, le_of}
use Rattle.machine_sound.proofs.Grow.{Grows, grows_self, grows_then, values_on, valid_on, each_waits_on}
use Rattle.machine_sound.proofs.Frames.{set_stack, CellsFit, stack_grows, stack_solid, stack_there}
use Rattle.machine_sound.proofs.Heaps.{closer_ok, callee_ok, CalleeOk}
use Rattle.machine_sound.proofs.Outside.{heap_of}
use Rattle.machine_sound.proofs.Waits.{with_moving, moving_grows, moving_solid, moving_waits, waits_stack, registers_here, pushed, pushed_grows, pushed_solid, pushed_there, push_is, EnteredAs, enters_good}
use Rattle.machine_sound.proofs.Held.{held_top, held_waits, held_is, held_place}
use Rattle.machine_sound.proofs.Calls.{blamed_valid, placed_valid}
use Rattle.machine_sound.proofs.Moves.{made_so}
use Rattle.std.proofs.lemmas.List.{reverse-append}

-- what moves

pub moving_under : (n : ℕ) (s : Option TopShape) (W : World) (vs : List Value) (fuel : ℕ) → WaitsUnder n s W → WaitsUnder n s (with_moving W vs fuel)
moving_under n None W vs fuel h = record { all = moving_waits n W vs fuel h.all; top = tt }
moving_under n (Some k) W vs fuel h = record { all = moving_waits n W vs fuel h.all; top = same (last h.all.frames) ∙ h.top }
  where
    same : (o : Option Frame) → top_shape (with_moving W vs fuel) o ≡ top_shape W o
    same None = refl
    same (Some (lua f)) = refl
    same _ = refl

-- a move that changes what moves, and reads some values
moves_on : (n : ℕ) (s : Option TopShape) (env vs ws : List Value) (W : World) → Is n (waiting s) env W → Each (Valid (sizes n W)) ws → Each (Valid (sizes n W)) vs → Is n (waiting s) (env ++ vs) (with_moving W ws W.fuel)
moves_on n s env vs ws W i h k =
    made_so n (waiting s) (waiting s) env vs W (with_moving W ws W.fuel) i (moving_grows n W ws W.fuel) (moving_solid n W ws W.fuel i.solid h) (moving_under n s W ws W.fuel i.phase)
    (values_on (sizes n W) (sizes n (with_moving W ws W.fuel)) (moving_grows n W ws W.fuel) vs k)

pub stays : (n : ℕ) (s : Option TopShape) (env vs : List Value) (W : World) → Is n (waiting s) env W → Each (Valid (sizes n W)) vs → Is n (waiting s) (env ++ vs) W
stays n s env vs W i k = made_so n (waiting s) (waiting s) env vs W W i (grows_self (sizes n W)) i.solid i.phase k

abbrev pub WaitingGood : ℕ → Move → Type 0
WaitingGood n m = (s : Option TopShape) (env : List Value) (W : World) → Is n (waiting s) env W → WaitingReady s env m → MoveGood n (waiting s) env m W

pub take_moving_waits : (n : ℕ) → WaitingGood n take_moving
take_moving_waits n s env W i r = record { event = W.moving; world = with_moving W [] W.fuel; is = refl; holds = moves_on n s env W.moving [] W i (each_none (Valid (sizes n W))) i.solid.moving }

pub look_waits : (n : ℕ) (x : Arg) → WaitingGood n (look x)
look_waits n x s env W i r = record { event = tt; world = W; is = refl; holds = stays n s env [] W i (each_none (Valid (sizes n W))) }

pub give_waits : (n : ℕ) (xs : List Arg) → WaitingGood n (give xs)
give_waits n xs s env W i r = record { event = tt; world = with_moving W (args_of env xs) W.fuel; is = refl; holds = moves_on n s env [] (args_of env xs) W i (args_valid (sizes n W) env xs i.valid r) (each_none (Valid (sizes n W))) }

pub give_with_waits : (n : ℕ) (xs : List Arg) (slot : ℕ) → WaitingGood n (give_with xs slot)
give_with_waits n xs slot s env W i r =
    let z = sizes n W in
    record { event = tt; world = with_moving W (args_of env xs ++ drop slot env) W.fuel; is = refl; holds = moves_on n s env [] (args_of env xs ++ drop slot env) W i (each_append (Valid z) (args_of env xs) (drop slot env) (args_valid z env xs i.valid r) (each_drop (Valid z) slot env i.valid)) (each_none (Valid z)) }

pub blame_waits : (n : ℕ) (text : List ℕ) → WaitingGood n (blame text)
blame_waits n text s env W i r =
    let z = sizes n W in
    record { event = tt; world = with_moving W (blamed W text ∷ []) W.fuel; is = refl; holds = moves_on n s env [] (blamed W text ∷ []) W i (each_one (Valid z) (blamed W text) (blamed_valid z W text)) (each_none (Valid z)) }

pub place_text_waits : (n : ℕ) (x : Arg) (level : ℕ) → WaitingGood n (place_text x level)
place_text_waits n x level s env W i r =
    let z = sizes n W in
    record { event = placed W level (arg env x); world = W; is = refl; holds = stays n s env (placed W level (arg env x) ∷ []) W i (each_one (Valid z) (placed W level (arg env x)) (placed_valid z W level (arg env x) (arg_valid z env x i.valid r))) }

pub find_close_waits : (n : ℕ) (v e : Arg) → WaitingGood n (find_close v e)
find_close_waits n v e s env W i r =
    let z = sizes n W in
    let h = handler_in W.heap of_close (arg env v) in
    let ok = closer_ok z W.heap (heap_of n W i.solid) (arg env v) (arg env e) (arg_valid z env v i.valid r.0) (arg_valid z env e i.valid r.1) in
    record { event = h; world = W; is = refl; holds = stays n s env (h ∷ arg env v ∷ arg env e ∷ []) W i ok }

-- what is on top

pub top_is : (n : ℕ) (W : World) (h : StackWaits n W) → top_now W ≡ Some (top_shape W (last h.frames))
top_is n W h = bind_at (λ (s : Stack). Some (top_shape W (last s.frames))) (stack_of W) (record { coroutine = h.coroutine; frames = h.frames }) (waits_stack n W h)

pub see_top_waits : (n : ℕ) → WaitingGood n see_top
see_top_waits n s env W i r = from (last i.phase.all.frames) refl
  where
    h : StackWaits n W
    h = i.phase.all

    is : (o : Option Frame) → last i.phase.all.frames ≡ o → move see_top env W ≡ Some (record { world = W; values = []; told = top_shape W o })
    is o e = bind_at (λ top. made W [] top) (top_now W) (top_shape W (last i.phase.all.frames)) (top_is n W i.phase.all) ∙ ap (λ o. made W [] (top_shape W o)) e

    other : (o : Option Frame) → IsNoLua (top_shape W o) → last i.phase.all.frames ≡ o → MoveGood n (waiting s) env see_top W
    other o k e = record { event = seen_other (top_shape W o) k; world = W; is = is o e; holds = made_so n (waiting s) (waiting (Some (top_shape W o))) env [] W W i (grows_self (sizes n W)) i.solid (record { all = i.phase.all; top = ap (top_shape W) e }) (each_none (Valid (sizes n W))) }

    from : (o : Option Frame) → last i.phase.all.frames ≡ o → MoveGood n (waiting s) env see_top W
    from (Some (lua f)) e = record {
      event = seen_lua (record { top = held_top (held_waits n W i.solid i.phase.all f e).function f; waits = refl; place = held_place n W i.solid i.phase.all f e; pending = omega arith });
      world = W;
      is = is (Some (lua f)) e;
      holds = made_so n (waiting s) (on_lua (held_top (held_waits n W i.solid i.phase.all f e).function f)) env [] W W i (grows_self (sizes n W)) i.solid (held_is n W i.solid i.phase.all f e) (each_none (Valid (sizes n W)));
    }
    from None e = other None tt e
    from (Some pcall) e = other (Some pcall) tt e
    from (Some (xpcall v)) e = other (Some (xpcall v)) tt e
    from (Some handler) e = other (Some handler) tt e
    from (Some (closing v left)) e = other (Some (closing v left)) tt e

-- who catches an error

pub each_reverse : {A : Type 0} (P : A → Type 0) (xs : List A) → Each P xs → Each P (reverse xs)
each_reverse P [] h = h
each_reverse P (x ∷ xs) h = subst (Each P) (sym (reverse-append (x ∷ []) xs)) (each_push P (reverse xs) x (each_reverse P xs (each_tail P x xs h)) (h zero x refl))

catcher_ok : (P : Frame → Type 0) (fs : List Frame) → Each P fs → OptionOk P (catcher fs)
catcher_ok P [] h = tt
catcher_ok P (lua f ∷ fs) h = catcher_ok P fs (each_tail P (lua f) fs h)
catcher_ok P (pcall ∷ fs) h = h zero pcall refl
catcher_ok P (xpcall v ∷ fs) h = h zero (xpcall v) refl
catcher_ok P (handler ∷ fs) h = h zero handler refl
catcher_ok P (closing e left ∷ fs) h = h zero (closing e left) refl

handler_valid : (z : Sizes) (o : Option Frame) → OptionOk (FrameOk z) o → Each (Valid z) (handler_value o)
handler_valid z (Some (xpcall v)) h = each_one (Valid z) v h
handler_valid z _ h = each_none (Valid z)

caught_by : (n : ℕ) (W : World) (h : StackWaits n W) (o : Option Frame) → IsPhase n (after_catcher (top_shape W o)) W
caught_by n W h None = from (runs_main W) refl
  where
    from : (b : Bool) → runs_main W ≡ b → IsPhase n (after_catcher (no_top b)) W
    from true e = record { all = h; top = tt }
    from false e = record { all = h; resumed_one = e }
caught_by n W h (Some (closing e left)) = record { all = h; top = tt }
caught_by n W h _ = record { all = h; top = tt }

pub see_catcher_waits : (n : ℕ) → WaitingGood n see_catcher
see_catcher_waits n s env W i r =
    let h = i.phase.all in
    let z = sizes n W in
    let c = catcher (reverse h.frames) in
    let ok : OptionOk (FrameOk z) c = catcher_ok (FrameOk z) (reverse h.frames) (each_reverse (FrameOk z) h.frames (i.solid.coroutines h.coroutine (in_progress h.frames) h.running).each) in
    record {
      event = (top_shape W c, handler_value c);
      world = W;
      is = bind_at _ (stack_of W) (record { coroutine = h.coroutine; frames = h.frames }) (waits_stack n W h);
      holds = made_so n (waiting s) (after_catcher (top_shape W c)) env (handler_value c) W W i (grows_self z) i.solid (caught_by n W h c) (handler_valid z c ok);
    }

-- other frames with the same Lua frames
module _ (n : ℕ) (W : World) (s : Solid n W) (h : StackWaits n W) (gs : List Frame) (same : (g : ℕ) → registers_in gs g ≡ registers_in h.frames g) (ok : FramesOk (sizes n W) gs) (w : Each (FrameWaits (sizes n W)) gs) where
  abbrev pub other_world : World
  other_world = set_stack W W.cells h.coroutine gs

  pub other_fit : CellsFit n W h.coroutine gs W.cells
  other_fit = record {
    count = refl;
    still_open = λ i d g r e. e;
    closed_ok = λ i v e. s.cells i (closed v) e;
    there = λ i g r e. subst (λ m. r < m) (registers_here W h.coroutine h.frames g h.running ∙ sym (same g)) (s.cells i (open_at h.coroutine g r) e);
  }

  pub other_grows : Grows (sizes n W) (sizes n other_world)
  other_grows = stack_grows n W h.coroutine h.frames gs W.cells h.running other_fit

  pub other_solid : Solid n other_world
  other_solid = stack_solid n W h.coroutine h.frames gs W.cells h.running other_fit s ok

  abbrev pub other_waits : StackWaits n other_world
  other_waits = record { coroutine = h.coroutine; frames = gs; last = h.last; running = stack_there n W h.coroutine h.frames gs W.cells h.running other_fit; waits = each_waits_on (sizes n W) (sizes n other_world) other_grows gs w }

other_put : (base : List Frame) (x y : Frame) → lua_frame x ≡ None → lua_frame y ≡ None → (g : ℕ) → registers_in (base ++ y ∷ []) g ≡ registers_in (base ++ x ∷ []) g
other_put [] x y a b zero = rw (a, b, registers_in) refl
other_put [] x y a b (suc g) = refl
other_put (f ∷ base) x y a b zero = refl
other_put (f ∷ base) x y a b (suc g) = other_put base x y a b g

other_pop : (base : List Frame) (x : Frame) → lua_frame x ≡ None → (g : ℕ) → registers_in base g ≡ registers_in (base ++ x ∷ []) g
other_pop [] x a zero = rw (a, registers_in) refl
other_pop [] x a (suc g) = refl
other_pop (f ∷ base) x a zero = refl
other_pop (f ∷ base) x a (suc g) = other_pop base x a g

-- a frame on top that is not a Lua function's
record OnTopOther (n : ℕ) (W : World) (h : StackWaits n W) (x : Frame) : Type 0 where
  pub splits : h.frames ≡ without_last h.frames ++ x ∷ []
  pub other : lua_frame x ≡ None

pop_is : (W : World) (s : Stack) → pop W s ≡ set_stack W W.cells s.coroutine (without_last s.frames)
unfolding pop put_frames
pop_is W s = refl

put_is : (W : World) (s : Stack) (x : Frame) → put_top W s x ≡ set_stack W W.cells s.coroutine (without_last s.frames ++ x ∷ [])
unfolding put_top put_frames
put_is W s x = refl

other_top : (W : World) (o : Option Frame) (k : TopShape) → IsOther k → top_shape W o ≡ k → (x : Frame) × (o ≡ Some x) × (lua_frame x ≡ None)
other_top W None k r e = absurd (subst IsOther (sym e) r)
other_top W (Some (lua f)) k r e = absurd (subst IsOther (sym e) r)
other_top W (Some pcall) k r e = (pcall, refl, refl)
other_top W (Some (xpcall v)) k r e = (xpcall v, refl, refl)
other_top W (Some handler) k r e = (handler, refl, refl)
other_top W (Some (closing v left)) k r e = (closing v left, refl, refl)

pub pop_frame_waits : (n : ℕ) → WaitingGood n pop_frame
pop_frame_waits n None env W i r = absurd r
pop_frame_waits n (Some k) env W i r =
    let h = i.phase.all in
    let s = i.solid in
    let z = sizes n W in
    let x = other_top W (last h.frames) k r i.phase.top in
    let sp = last_splits h.frames x.0 x.1 in
    let base = without_last h.frames in
    let fr = (s.coroutines h.coroutine (in_progress h.frames) h.running) in
    let ok : FramesOk z base = record { each = each_take (FrameOk z) (length h.frames - 1) h.frames fr.each; depth = (let a = fr.depth in let b = ap length sp in let c = length-append base (x.0 ∷ []) in omega arith) } in
    let w = each_take (FrameWaits z) (length h.frames - 1) h.frames h.waits in
    let same : (g : ℕ) → registers_in base g ≡ registers_in h.frames g = (λ g. other_pop base x.0 x.2 g ∙ ap (λ fs. registers_in fs g) (sym sp)) in
    let V = other_world n W s h base same ok w in
    record {
      event = tt;
      world = V;
      is = bind_at _ (stack_of W) (record { coroutine = h.coroutine; frames = h.frames }) (waits_stack n W h) ∙ ap (λ V. made V [] tt) (pop_is W (record { coroutine = h.coroutine; frames = h.frames }));
      holds = made_so n (waiting (Some k)) (waiting None) env [] W V i (other_grows n W s h base same ok w) (other_solid n W s h base same ok w) (record { all = other_waits n W s h base same ok w; top = tt }) (each_none (Valid (sizes n V)));
    }

-- the closing of a coroutine's variables

closing_top_is : (W : World) (o : Option Frame) → top_shape W o ≡ closing_top → (e : Option Value) × (left : List Value) × (o ≡ Some (closing e left))
closing_top_is W (Some (closing e left)) h = (e, left, refl)
closing_top_is W _ h = absurd (cc)

module _ (n : ℕ) (env : List Value) (W : World) (i : Is n (waiting (Some closing_top)) env W) (e : Option Value) (left : List Value) (x : last i.phase.all.frames ≡ Some (closing e left)) where
  abbrev h : StackWaits n W
  h = i.phase.all

  pub closing_ok : OptionOk (Valid (sizes n W)) e × Each (Valid (sizes n W)) left
  closing_ok = each_last (FrameOk (sizes n W)) (without_last h.frames) (closing e left) (subst (Each (FrameOk (sizes n W))) (last_splits h.frames (closing e left) x) (i.solid.coroutines h.coroutine (in_progress h.frames) h.running).each)

  module _ (e' : Option Value) (left' : List Value) (k : FrameOk (sizes n W) (closing e' left')) where
    abbrev gs : List Frame
    gs = without_last i.phase.all.frames ++ closing e' left' ∷ []

    sp : h.frames ≡ without_last h.frames ++ closing e left ∷ []
    sp = last_splits h.frames (closing e left) x

    pub same_registers : (g : ℕ) → registers_in gs g ≡ registers_in h.frames g
    same_registers g = other_put (without_last h.frames) (closing e left) (closing e' left') refl refl g ∙ ap (λ fs. registers_in fs g) (sym sp)

    pub frames_ok : FramesOk (sizes n W) gs
    frames_ok =
        let fr = (i.solid.coroutines h.coroutine (in_progress h.frames) h.running) in
        record {
          each = each_push (FrameOk (sizes n W)) (without_last h.frames) (closing e' left') (each_take (FrameOk (sizes n W)) (length h.frames - 1) h.frames fr.each) k;
          depth = (let a = fr.depth in let b = ap length sp in let c = length-append (without_last h.frames) (closing e left ∷ []) in let d = length-append (without_last h.frames) (closing e' left' ∷ []) in omega arith);
        }

    pub frames_wait : Each (FrameWaits (sizes n W)) gs
    frames_wait = each_push (FrameWaits (sizes n W)) (without_last h.frames) (closing e' left') (each_take (FrameWaits (sizes n W)) (length h.frames - 1) h.frames h.waits) tt

    abbrev pub closing_world : World
    closing_world = other_world n W i.solid i.phase.all gs same_registers frames_ok frames_wait

    pub closing_holds : (vs : List Value) → Each (Valid (sizes n W)) vs → Is n (waiting (Some closing_top)) (env ++ vs) closing_world
    closing_holds vs v =
        let g = other_grows n W i.solid h gs same_registers frames_ok frames_wait in
        made_so n (waiting (Some closing_top)) (waiting (Some closing_top)) env vs W closing_world i g (other_solid n W i.solid h gs same_registers frames_ok frames_wait)
        (record { all = other_waits n W i.solid h gs same_registers frames_ok frames_wait; top = ap (top_shape closing_world) (last_push (without_last h.frames) (closing e' left')) }) (values_on (sizes n W) (sizes n closing_world) g vs v)

last_there : (v : Value) (vs : List Value) → (x : Value) × (last (v ∷ vs) ≡ Some x)
last_there v vs = go v vs
  where
    go : (v : Value) (vs : List Value) → (x : Value) × (slice_get (v ∷ vs) (length vs) ≡ Some x)
    go v [] = (v, refl)
    go v (w ∷ vs) = go w vs

nil_or : (z : Sizes) (e : Option Value) → OptionOk (Valid z) e → Valid z (error_or_nil e)
nil_or z None h = tt
nil_or z (Some v) h = h

pub take_closing_waits : (n : ℕ) → WaitingGood n take_closing
take_closing_waits n (Some closing_top) env W i r =
    let c = closing_top_is W (last i.phase.all.frames) i.phase.top in
    from c.0 c.1 c.2
  where
    is : (e : Option Value) (left : List Value) → last i.phase.all.frames ≡ Some (closing e left) → move take_closing env W ≡ next_closing W (record { coroutine = i.phase.all.coroutine; frames = i.phase.all.frames }) (closing e left)
    is e left x = bind_at _ (stack_of W) (record { coroutine = i.phase.all.coroutine; frames = i.phase.all.frames }) (waits_stack n W i.phase.all) ∙ bind_at (next_closing W (record { coroutine = i.phase.all.coroutine; frames = i.phase.all.frames })) (last i.phase.all.frames) (closing e left) x

    from : (e : Option Value) (left : List Value) → last i.phase.all.frames ≡ Some (closing e left) → MoveGood n (waiting (Some closing_top)) env take_closing W
    from None [] x = record { event = takes_none; world = W; is = is None [] x; holds = stays n (Some closing_top) env [] W i (each_none (Valid (sizes n W))) }
    from (Some v) [] x = record { event = takes_error v; world = W; is = is (Some v) [] x; holds = stays n (Some closing_top) env (v ∷ []) W i (each_one (Valid (sizes n W)) v (closing_ok n env W i (Some v) [] x).0) }
    from e (v ∷ left) x =
        let z = sizes n W in
        let ok = closing_ok n env W i e (v ∷ left) x in
        let l = last_there v left in
        let k : FrameOk z (closing e (without_last (v ∷ left))) = (ok.0, each_take (Valid z) (length (v ∷ left) - 1) (v ∷ left) ok.1) in
        let lv : Valid z l.0 = each_last (Valid z) (without_last (v ∷ left)) l.0 (subst (Each (Valid z)) (last_splits (v ∷ left) l.0 l.1) ok.1) in
        record {
          event = takes_one l.0 (error_or_nil e);
          world = closing_world n env W i e (v ∷ left) x e (without_last (v ∷ left)) k;
          is = is e (v ∷ left) x
              ∙ ap (λ (o : Option Value). elim o as (λ _. Option (Made ClosingShape)) [ None ↦ None | Some y ↦ made (put_top W (record { coroutine = i.phase.all.coroutine; frames = i.phase.all.frames }) (closing e (without_last (v ∷ left)))) (y ∷ error_or_nil e ∷ []) one_left ]) l.1
              ∙ ap (λ V. made V (l.0 ∷ error_or_nil e ∷ []) one_left) (put_is W (record { coroutine = i.phase.all.coroutine; frames = i.phase.all.frames }) (closing e (without_last (v ∷ left))));
          holds = closing_holds n env W i e (v ∷ left) x e (without_last (v ∷ left)) k (l.0 ∷ error_or_nil e ∷ []) (each_cons (Valid z) l.0 (error_or_nil e ∷ []) lv (each_one (Valid z) (error_or_nil e) (nil_or z e ok.0)));
        }
take_closing_waits n _ env W i r = absurd r

pub set_error_waits : (n : ℕ) (a : Arg) → WaitingGood n (set_error a)
set_error_waits n a (Some closing_top) env W i r =
    let c = closing_top_is W (last i.phase.all.frames) i.phase.top in
    from c.0 c.1 c.2
  where
    from : (e : Option Value) (left : List Value) → last i.phase.all.frames ≡ Some (closing e left) → MoveGood n (waiting (Some closing_top)) env (set_error a) W
    from e left x =
        let z = sizes n W in
        let k : FrameOk z (closing (Some (arg env a)) left) = (arg_valid z env a i.valid r.1, (closing_ok n env W i e left x).1) in
        record {
          event = tt;
          world = closing_world n env W i e left x (Some (arg env a)) left k;
          is = bind_at _ (stack_of W) (record { coroutine = i.phase.all.coroutine; frames = i.phase.all.frames }) (waits_stack n W i.phase.all)
              ∙ bind_at (λ f. with_error W (record { coroutine = i.phase.all.coroutine; frames = i.phase.all.frames }) f (arg env a)) (last i.phase.all.frames) (closing e left) x
              ∙ ap (λ V. made V [] tt) (put_is W (record { coroutine = i.phase.all.coroutine; frames = i.phase.all.frames }) (closing (Some (arg env a)) left));
          holds = closing_holds n env W i e left x (Some (arg env a)) left k [] (each_none (Valid z));
        }
set_error_waits n a _ env W i r = absurd r.0

-- frames that are pushed, over which something is called then

-- the frames are pushed: none, or one that is no Lua function's
record Pushed (n : ℕ) (W : World) (frames : List Frame) : Type 0 where
  pub world : World
  pub is : push_all W frames ≡ world
  pub grows : Grows (sizes n W) (sizes n world)
  pub solid : Solid n world
  pub waits : StackWaits n world
  pub fuel : world.fuel ≡ W.fuel

pushed_one : (n : ℕ) (W : World) (s : Solid n W) (h : StackWaits n W) (x : Frame) (ok : FrameOk (sizes n W) x) (w : (z : Sizes) → FrameWaits z x) → length h.frames < greatest_depth → Pushed n W (x ∷ [])
pushed_one n W s h x ok w room =
    let V = pushed n W s h x ok room in
    let g = pushed_grows n W s h x ok room in
    record {
      world = V;
      is = ap (λ (o : Option Stack). elim o as (λ _. World) [ None ↦ W | Some s ↦ push W s x ]) (waits_stack n W h) ∙ push_is W (record { coroutine = h.coroutine; frames = h.frames }) x;
      grows = g;
      solid = pushed_solid n W s h x ok room;
      waits = record { coroutine = h.coroutine; frames = h.frames ++ x ∷ []; last = h.last; running = pushed_there n W s h x ok room; waits = each_push (FrameWaits (sizes n V)) h.frames x (each_waits_on (sizes n W) (sizes n V) g h.frames h.waits) (w (sizes n V)) };
      fuel = refl;
    }

over_pushed : (n : ℕ) (W : World) (s : Solid n W) (h : StackWaits n W) (over : Over) (env : List Value) → Each (Valid (sizes n W)) env → OverOk over → length h.frames + 1 ≤ greatest_depth → Pushed n W (frame_over over env ∷ [])
over_pushed n W s h over_pcall env v o l = pushed_one n W s h pcall tt (λ z. tt) (omega arith)
over_pushed n W s h (over_xpcall x) env v o l = pushed_one n W s h (xpcall (arg env x)) (arg_valid (sizes n W) env x v o) (λ z. tt) (omega arith)
over_pushed n W s h over_handler env v o l = pushed_one n W s h handler tt (λ z. tt) (omega arith)

pub push_frame_waits : (n : ℕ) (over : Over) → WaitingGood n (push_frame over)
push_frame_waits n over s env W i r = room (nat_le (length i.phase.all.frames + 1) greatest_depth) refl
  where
    room_is : has_room W 1 ≡ nat_le (length i.phase.all.frames + 1) greatest_depth
    room_is = ap (λ (o : Option Stack). elim o as (λ _. Bool) [ None ↦ false | Some s ↦ nat_le (length s.frames + 1) greatest_depth ]) (waits_stack n W i.phase.all)

    is : (b : Bool) → nat_le (length i.phase.all.frames + 1) greatest_depth ≡ b → move (push_frame over) env W ≡ cond b (made (push_all W (frame_over over env ∷ [])) [] true) (made W [] false)
    is b e = ap (λ b. cond b (made (push_all W (frame_over over env ∷ [])) [] true) (made W [] false)) (room_is ∙ e)

    room : (b : Bool) → nat_le (length i.phase.all.frames + 1) greatest_depth ≡ b → MoveGood n (waiting s) env (push_frame over) W
    room false e = record { event = false; world = W; is = is false e; holds = made_so n (waiting s) (waiting None) env [] W W i (grows_self (sizes n W)) i.solid (record { all = i.phase.all; top = tt }) (each_none (Valid (sizes n W))) }
    room true e =
        let p = over_pushed n W i.solid i.phase.all over env i.valid r (le_of _ greatest_depth e) in
        record { event = true; world = p.world; is = is true e ∙ ap (λ V. made V [] true) p.is; holds = made_so n (waiting s) (waiting None) env [] W p.world i p.grows p.solid (record { all = p.waits; top = tt }) (each_none (Valid (sizes n p.world))) }

-- a call of what was asked for

over_phase : (n : ℕ) (P V : World) (h : StackWaits n P) (c : CallShape) → EnteredAs n P V c → IsPhase n (after_over c) V
over_phase n P V h is_entered k = k
over_phase n P V h (is_primitive m) k = k
over_phase n P V h not_paid k = absurd k
over_phase n P V h (not_entered text) k = rw k (record { all = h; top = tt })

pub call_value_waits : (n : ℕ) (f : Arg) (slot : ℕ) → WaitingGood n (call_value f slot)
call_value_waits n f slot s env W i r =
    from (callee_of greatest_chain W.heap (arg env f) (drop slot env)) refl
    (callee_ok (sizes n W) W.heap (heap_of n W i.solid) greatest_chain (arg env f) (drop slot env) (arg_valid (sizes n W) env f i.valid r) (each_drop (Valid (sizes n W)) slot env i.valid)) W.fuel refl
  where
    still : (c : CallShape) → after_over c ≡ waiting None → Is n (after_over c) (env ++ []) W
    still c e = made_so n (waiting s) (after_over c) env [] W W i (grows_self (sizes n W)) i.solid (subst (λ x. IsPhase n x W) (sym e) (record { all = i.phase.all; top = tt })) (each_none (Valid (sizes n W)))

    from : (c : Callee) → callee_of greatest_chain W.heap (arg env f) (drop slot env) ≡ c → CalleeOk (sizes n W) W.heap (heap_of n W i.solid) c → (fuel : ℕ) → W.fuel ≡ fuel → MoveGood n (waiting s) env (call_value f slot) W
    from (not_callable text) q k fuel u = record { event = not_entered text; world = W; is = ap (enters_paid W W) q; holds = still (not_entered text) refl }
    from (callee g vs) q k zero u = record {
      event = not_paid;
      world = W;
      is = ap (enters_paid W W) q ∙ ap (λ (x : ℕ). elim x as (λ _. Option (Made CallShape)) [ zero ↦ made W [] not_paid | suc fuel ↦ enters (record W { fuel = fuel }) g vs ]) u;
      holds = still not_paid refl;
    }
    from (callee g vs) q k (suc fuel) u =
        let Q = with_moving W W.moving fuel in
        let gr = moving_grows n W W.moving fuel in
        let qs = moving_solid n W W.moving fuel i.solid i.solid.moving in
        let qw = moving_waits n W W.moving fuel i.phase.all in
        let x = enters_good n Q qs qw vs (values_on (sizes n W) (sizes n Q) gr vs k.2) g (valid_on (sizes n W) (sizes n Q) gr g k.0) k.1 in
        record {
          event = x.shape;
          world = x.world;
          is = ap (enters_paid W W) q ∙ ap (λ (x : ℕ). elim x as (λ _. Option (Made CallShape)) [ zero ↦ made W [] not_paid | suc fuel ↦ enters (record W { fuel = fuel }) g vs ]) u ∙ x.is;
          holds = made_so n (waiting s) (after_over x.shape) env [] W x.world i (grows_then (sizes n W) (sizes n Q) (sizes n x.world) gr x.grows) x.solid (over_phase n Q x.world qw x.shape x.as') (each_none (Valid (sizes n x.world)));
        }

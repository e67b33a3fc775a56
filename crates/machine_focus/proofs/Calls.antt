-- Calls of Lua functions and returns to Lua frames, with the running frame held apart on both sides.
use Rattle.std.proofs.Common.{◌≡◌, ℕ, zero, suc, ◌+◌, ◌<◌, List, [], ◌∷◌, ◌++◌, length, Option, Some, None, refl, ap, ◌∙◌, drop, take, length-append, Bool, true, false}
use Rattle.std.specs.Prelude.{cond, slice_get, slice_set, nat_le}
use Rattle.code_core.specs.Prototype.{Prototype}
use Rattle.int_core.specs.Heap.{Heap}
use Rattle.int_core.specs.Limits.{greatest_depth}
use Rattle.int_core.specs.Value.{Value, object, a_function, bind, last, fitted}
use Rattle.int_core.specs.Operations.{callee, callee_of, greatest_chain}
use Rattle.machine_core.specs.World.{Function, Cell, Wait, for_call, Activation, LuaFrame, Frame, lua, in_progress, World, Stack, running_frames, stack_of, put_frames, put_top, push, pop, close_from}
use Rattle.machine_core.specs.Text.{Arg, arg, Own, done, call, leave, results}
use Rattle.machine_core.specs.InstructionRows.{rest_at}
use Rattle.machine_core.specs.FrameRows.{by_asking, expand, goes_on_by, after_call, after_leaving}
use Rattle.machine_core.specs.Moves.{lua_top, top_shape, top_now, leave_frame, popped, enter, Made, made, CallShape, is_entered, called, enters, enters_paid, has_room, push_all, new_frame, with_own, cells_done, named, move, on_own, Ending, go, Row, act, stop, Outcome, ends, trapped, run}
use Rattle.machine_core.specs.MachineStep.{woken, frame_step, lua_step, from_world, step, steps, and_then}
use Rattle.machine_sound.proofs.Lists.{last_push, without_push, get_set_same, get_there}
use Rattle.machine_focus.specs.Focus.{Context, Held, top, world, place, Stands, local, stacked}
use Rattle.machine_focus.proofs.Places.{set_set, place_is}
use Rattle.machine_focus.proofs.Local.{made_is, local_is}

abbrev pub stack_at : ℕ → List Frame → Stack
stack_at co fs = record { coroutine = co; frames = fs }

module _ (b : World) (co : ℕ) (chain : last b.chain ≡ Some co) (there : co < length b.coroutines) (H : Heap) (ws : List Cell) (fuel : ℕ) (mv : List Value) where
  pub stacked_is : (fs : List Frame) → stack_of (stacked b co fs H ws fuel mv) ≡ Some (record { coroutine = co; frames = fs })
  stacked_is fs =
      let t = get_there b.coroutines co there in
      ap (λ o. bind {B = Stack} o (λ d. bind {B = Stack} (bind (slice_get (slice_set b.coroutines co (in_progress fs)) d) running_frames) (λ fs. Some (stack_at d fs)))) chain
      ∙ ap (λ o. bind {B = Stack} (bind o running_frames) (λ fs. Some (stack_at co fs))) (get_set_same b.coroutines co t.0 (in_progress fs) t.1)

  pub put_is : (fs : List Frame) (x y : Frame) → put_top (stacked b co (fs ++ x ∷ []) H ws fuel mv) (record { coroutine = co; frames = fs ++ x ∷ [] }) y ≡ stacked b co (fs ++ y ∷ []) H ws fuel mv
  unfolding put_top put_frames
  put_is fs x y =
      ap (λ gs. record b { heap = H; cells = ws; coroutines = slice_set (slice_set b.coroutines co (in_progress (fs ++ x ∷ []))) co (in_progress (gs ++ y ∷ [])); moving = mv; fuel = fuel }) (without_push fs x)
      ∙ ap (λ cs. record b { heap = H; cells = ws; coroutines = cs; moving = mv; fuel = fuel }) (set_set b.coroutines co (in_progress (fs ++ x ∷ [])) (in_progress (fs ++ y ∷ [])))

  pub pop_is : (fs : List Frame) (x : Frame) → pop (stacked b co (fs ++ x ∷ []) H ws fuel mv) (record { coroutine = co; frames = fs ++ x ∷ [] }) ≡ stacked b co fs H ws fuel mv
  unfolding pop put_frames
  pop_is fs x =
      ap (λ gs. record b { heap = H; cells = ws; coroutines = slice_set (slice_set b.coroutines co (in_progress (fs ++ x ∷ []))) co (in_progress gs); moving = mv; fuel = fuel }) (without_push fs x)
      ∙ ap (λ cs. record b { heap = H; cells = ws; coroutines = cs; moving = mv; fuel = fuel }) (set_set b.coroutines co (in_progress (fs ++ x ∷ [])) (in_progress fs))

  pub push_is : (fs : List Frame) (y : Frame) → push_all (stacked b co fs H ws fuel mv) (y ∷ []) ≡ stacked b co (fs ++ y ∷ []) H ws fuel mv
  unfolding push put_frames
  push_is fs y =
      ap (λ o. elim o as (λ _. World) [ None ↦ stacked b co fs H ws fuel mv | Some s ↦ push (stacked b co fs H ws fuel mv) s y ]) (stacked_is fs)
      ∙ ap (λ cs. record b { heap = H; cells = ws; coroutines = cs; moving = mv; fuel = fuel }) (set_set b.coroutines co (in_progress fs) (in_progress (fs ++ y ∷ [])))

  pub room_is : (fs : List Frame) (k : ℕ) → has_room (stacked b co fs H ws fuel mv) k ≡ nat_le (length fs + k) greatest_depth
  room_is fs k = ap (λ o. elim o as (λ _. Bool) [ None ↦ false | Some s ↦ nat_le (length s.frames + k) greatest_depth ]) (stacked_is fs)

  pub entered_is : (fs : List Frame) (n : ℕ) (q : Function) (vs : List Value) → slice_get b.functions n ≡ Some q → nat_le (length fs + 1) greatest_depth ≡ true
      → enters (stacked b co fs H ws fuel mv) (object a_function n) vs ≡ made (stacked b co (fs ++ new_frame n q.code vs ∷ []) H ws fuel mv) [] is_entered
  entered_is fs n q vs f r =
      ap (λ o. bind o (λ f. cond (has_room (stacked b co fs H ws fuel mv) 1) (made (push_all (stacked b co fs H ws fuel mv) (new_frame n f.code vs ∷ [])) [] is_entered) (made (stacked b co fs H ws fuel mv) [] (Rattle.machine_core.specs.Moves.not_entered Rattle.int_core.specs.Limits.stack_overflow)))) f
      ∙ ap (λ t. cond t (made (push_all (stacked b co fs H ws fuel mv) (new_frame n q.code vs ∷ [])) [] is_entered) (made (stacked b co fs H ws fuel mv) [] (Rattle.machine_core.specs.Moves.not_entered Rattle.int_core.specs.Limits.stack_overflow))) (room_is fs 1 ∙ r)
      ∙ ap (λ W. made W [] is_entered) (push_is fs (new_frame n q.code vs))

callee_is : (links : ℕ) (H : Heap) (n : ℕ) (vs : List Value) → callee_of links H (object a_function n) vs ≡ callee (object a_function n) vs
callee_is zero H n vs = refl
callee_is (suc links) H n vs = refl

-- the context in the function that is called
abbrev pub inner : Context → LuaFrame → ℕ → Function → Context
inner c z n q = record { base = c.base; coroutine = c.coroutine; below = c.below ++ lua z ∷ []; function = n; closure = q }

pub inner_stands : (c : Context) (z : LuaFrame) (n : ℕ) (q : Function) → Stands c → slice_get c.base.functions n ≡ Some q → Stands (inner c z n q)
inner_stands c z n q s f = record { chain = s.chain; there = s.there; function = f }

abbrev pub began : Prototype → List Value → Activation
began p vs = record {
  pc = 0;
  registers = fitted p.own.stack (take p.own.params vs);
  varargs = cond p.own.vararg (drop p.own.params vs) [];
  pending = [];
  opened = 0;
}

pub ready_is : (c : Context) (s : Stands c) (h : Held) (env : List Value) (wait : Wait Value) (ms : List Own)
    → with_own (world c h) (place c h) wait ms env ≡ stacked c.base c.coroutine (c.below ++ lua (record { function = c.function; wait = wait; own = done ms c.closure.code env h.own }) ∷ []) h.heap (cells_done ms c.closure.code c.coroutine (length c.below) env h.own h.cells) h.fuel []
unfolding with_own
ready_is c s h env wait ms = put_is c.base c.coroutine s.chain s.there h.heap (cells_done ms c.closure.code c.coroutine (length c.below) env h.own h.cells) h.fuel [] c.below (lua (top c h.own)) (lua (record { function = c.function; wait = wait; own = done ms c.closure.code env h.own }))

pub woken_is : (c : Context) (s : Stands c) (a : Activation) (H : Heap) (cs : List Cell) (fuel : ℕ) (vs : List Value)
    → woken (stacked c.base c.coroutine (c.below ++ lua (record { function = c.function; wait = for_call; own = a }) ∷ []) H cs fuel vs) (stack_at c.coroutine (c.below ++ lua (record { function = c.function; wait = for_call; own = a }) ∷ [])) (record { function = c.function; wait = for_call; own = a })
    ≡ world c (record { heap = H; cells = cs; fuel = fuel; own = a })
unfolding woken
woken_is c s a H cs fuel vs = ap (λ (W : World). record W { moving = [] }) (put_is c.base c.coroutine s.chain s.there H cs fuel vs c.below (lua (record { function = c.function; wait = for_call; own = a })) (lua (top c a)))

-- a call of a Lua function that is paid and has room
pub call_is : (c : Context) (s : Stands c) (h : Held) (env : List Value) (f : Arg) (slot : ℕ) (wait : Wait Arg) (ms : List Own) (n : ℕ) (q : Function) (left : ℕ)
    → arg env f ≡ object a_function n → slice_get c.base.functions n ≡ Some q → h.fuel ≡ suc left → nat_le (length c.below + 1 + 1) greatest_depth ≡ true
    → run (expand (call f slot wait ms)) env (world c h)
    ≡ ends go (world (inner c (record { function = c.function; wait = named env wait; own = done ms c.closure.code env h.own }) n q)
    (record { heap = h.heap; cells = cells_done ms c.closure.code c.coroutine (length c.below) env h.own h.cells; fuel = left; own = began q.code (drop slot env) }))
call_is c s h env f slot wait ms n q left e fn pay r =
    let W = world c h in
    let z : LuaFrame = record { function = c.function; wait = named env wait; own = done ms c.closure.code env h.own } in
    let cs = cells_done ms c.closure.code c.coroutine (length c.below) env h.own h.cells in
    let P = stacked c.base c.coroutine (c.below ++ lua z ∷ []) h.heap cs h.fuel [] in
    let vs = drop slot env in
    let room : nat_le (length (c.below ++ lua z ∷ []) + 1) greatest_depth ≡ true = (let l : length (c.below ++ lua z ∷ []) ≡ length c.below + 1 = length-append c.below (lua z ∷ []) in ap (λ n. nat_le (n + 1) greatest_depth) l ∙ r) in
    made_is (enter f slot wait ms) (λ _ s. after_call s) env W (stacked c.base c.coroutine (c.below ++ lua z ∷ [] ++ new_frame n q.code vs ∷ []) h.heap cs left []) [] is_entered
    (ap (λ o. bind o (λ p. called W (with_own W p (named env wait) ms env) (arg env f) vs)) (place_is c s h)
    ∙ ap (λ P. called W P (arg env f) vs) (ready_is c s h env (named env wait) ms)
    ∙ ap (λ v. called W P v vs) e
    ∙ ap (enters_paid W P) (callee_is greatest_chain h.heap n vs)
    ∙ ap (λ (m : ℕ). elim m as (λ _. Option (Made CallShape)) [ zero ↦ made W [] Rattle.machine_core.specs.Moves.not_paid | suc fuel ↦ enters (record P { fuel = fuel }) (object a_function n) vs ]) pay
    ∙ entered_is c.base c.coroutine s.chain s.there h.heap cs left [] (c.below ++ lua z ∷ []) n q vs fn room)

-- a return to a Lua frame: the values move, and the next step is that frame's
pub leave_is : (c : Context) (s : Stands c) (h : Held) (env : List Value) (slot : ℕ) (bs : List Frame) (z : LuaFrame) → c.below ≡ bs ++ lua z ∷ []
    → run (expand (leave (results slot))) env (world c h) ≡ ends go (stacked c.base c.coroutine (bs ++ lua z ∷ []) h.heap (close_from c.coroutine (length c.below) 0 h.own.registers h.cells) h.fuel (drop slot env))
unfolding popped
leave_is c s h env slot bs z b =
    let cs = close_from c.coroutine (length c.below) 0 h.own.registers h.cells in
    let vs = drop slot env in
    let popped_is : popped (world c h) (place c h) ≡ stacked c.base c.coroutine c.below h.heap cs h.fuel [] = pop_is c.base c.coroutine s.chain s.there h.heap cs h.fuel [] c.below (lua (top c h.own)) in
    let V = stacked c.base c.coroutine c.below h.heap cs h.fuel vs in
    let top_is : top_now V ≡ Some lua_top =
    ap (λ o. bind o (λ s. Some (top_shape V (last s.frames)))) (stacked_is c.base c.coroutine s.chain s.there h.heap cs h.fuel vs c.below)
    ∙ ap (λ fs. Some (top_shape V (last fs))) b ∙ ap (λ o. Some (top_shape V o)) (last_push bs (lua z)) in
    made_is (leave_frame (results slot)) (λ _ top. after_leaving (results slot) top) env (world c h) V [] lua_top
    (ap (λ o. bind o (λ p. let V = record (popped (world c h) p) { moving = vs } in bind (top_now V) (λ top. made V [] top))) (place_is c s h)
    ∙ ap (λ (U : World). let V = record U { moving = vs } in bind (top_now V) (λ top. made V [] top)) popped_is
    ∙ ap (λ o. bind o (λ top. made V [] top)) top_is)
    ∙ ap (λ fs. ends go (stacked c.base c.coroutine fs h.heap cs h.fuel vs)) b

-- a frame that waits for a call goes on with the values that move
pub woken_step : (c : Context) (s : Stands c) (a : Activation) (H : Heap) (cs : List Cell) (fuel : ℕ) (vs : List Value) (k : Held) (rows : ℕ → Row)
    → local c (rest_at {V = Value} for_call c.closure.code a.pc) vs (record { heap = H; cells = cs; fuel = fuel; own = a }) ≡ Some k
    → step rows go (stacked c.base c.coroutine (c.below ++ lua (record { function = c.function; wait = for_call; own = a }) ∷ []) H cs fuel vs) ≡ ends go (world c k)
woken_step c s a H cs fuel vs k rows e =
    let z : LuaFrame = record { function = c.function; wait = for_call; own = a } in
    let fs = c.below ++ lua z ∷ [] in
    let V = stacked c.base c.coroutine fs H cs fuel vs in
    let h : Held = record { heap = H; cells = cs; fuel = fuel; own = a } in
    ap (λ o. from_world V (elim o [ None ↦ trapped | Some o ↦ o ])) (
    ap (λ o. bind o (λ s. bind (last s.frames) (frame_step V s))) (stacked_is c.base c.coroutine s.chain s.there H cs fuel vs fs)
    ∙ ap (λ o. bind o (frame_step V (stack_at c.coroutine fs))) (last_push c.below (lua z))
    ∙ ap (λ o. bind o (λ g. Some (lua_step V (stack_at c.coroutine fs) z g.code for_call))) s.function
    ∙ ap (λ W. Some (run (goes_on_by (rest_at {V = Value} for_call c.closure.code a.pc)) vs W)) (woken_is c s a H cs fuel vs)
    ∙ ap (λ o. Some o) (local_is c s by_asking (rest_at {V = Value} for_call c.closure.code a.pc) vs h k e))

-- both steps of a return
pub returned : (c d : Context) (s : Stands c) (t : Stands d) (h : Held) (env : List Value) (slot : ℕ) (a : Activation) (k : Held) (rows : ℕ → Row)
    → c.base ≡ d.base → c.coroutine ≡ d.coroutine → c.below ≡ d.below ++ lua (record { function = d.function; wait = for_call; own = a }) ∷ []
    → local d (rest_at {V = Value} for_call d.closure.code a.pc) (drop slot env) (record { heap = h.heap; cells = close_from c.coroutine (length c.below) 0 h.own.registers h.cells; fuel = h.fuel; own = a }) ≡ Some k
    → (W : World) → step rows go W ≡ from_world W (run (expand (leave (results slot))) env (world c h)) → steps rows 2 go W ≡ ends go (world d k)
returned c d s t h env slot a k rows eb ec e l W first =
    let cs = close_from c.coroutine (length c.below) 0 h.own.registers h.cells in
    let x = first ∙ ap (from_world W) (leave_is c s h env slot d.below (record { function = d.function; wait = for_call; own = a }) e) in
    let same = ap (λ b. ends go (stacked b c.coroutine (d.below ++ lua (record { function = d.function; wait = for_call; own = a }) ∷ []) h.heap cs h.fuel (drop slot env))) eb
    ∙ ap (λ co. ends go (stacked d.base co (d.below ++ lua (record { function = d.function; wait = for_call; own = a }) ∷ []) h.heap cs h.fuel (drop slot env))) ec in
    ap (λ o. and_then o (steps rows 1)) (x ∙ same) ∙ ap (λ o. and_then o (steps rows 0)) (woken_step d t a h.heap cs h.fuel (drop slot env) k rows l)

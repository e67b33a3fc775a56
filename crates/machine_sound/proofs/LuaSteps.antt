-- A step of a Lua frame on top does not trap: it runs its instruction, or what is left of one for which the answer came.
use Rattle.std.proofs.Common.{ℕ, suc, ◌-◌, ◌≡◌, ◌<◌, ◌≤◌, [], ◌∷◌, ◌++◌, Option, Some, None, refl, subst, sym, ap, ◌∙◌, length, Bool, true, false, arith}
use Rattle.std.specs.Prelude.{slice_get, IsTrue, IsSome}
use Rattle.int_core.specs.Value.{Value, nth, bind, last}
use Rattle.code_core.specs.declared.opcode.Opcode.{Opcode}
use Rattle.code_core.specs.declared.instruction.Instruction.{Instruction}
use Rattle.code_core.specs.Prototype.{Prototype}
use Rattle.code_core.specs.Check.{CodeIsChecked, at}
use Rattle.machine_core.specs.World.{Function, Wait, running, for_call, for_iterator, for_value, for_truth, dropped, for_concat, for_close, returning, leaving, Frame, lua, pcall, xpcall, handler, closing, World, Stack, stack_of, Place, place_of, lua_frame, running_frames, find_open}
use Rattle.machine_core.specs.Text.{read}
use Rattle.machine_core.specs.InstructionRows.{text_at, rest_at, told_values}
use Rattle.int_core.specs.Ask.{values}
use Rattle.machine_core.specs.Moves.{lua_top, top_shape, go, calls_primitive, spent, main_yielded, main_returned, main_failed, Row, Outcome, trapped, ends, run}
use Rattle.machine_core.specs.FrameRows.{expand, goes_on_by}
use Rattle.machine_core.specs.MachineStep.{woken, lua_step, top_step, from_world, step_by, step}
use Rattle.machine_sound.specs.Sound.{Each, sizes, Valid, WaitOk, waits_at, waiting_size, LuaWaits, Solid, Top, RunsOrWaits, TopIs, Fits, FitsIfRuns, Settled, StackWaits, Rests, idle, on_top, all_wait, Sound}
use Rattle.machine_sound.specs.Safe.{on_lua, Is, Good}
use Rattle.machine_sound.specs.Laws.{StepGood, GoesFromSound}
use Rattle.machine_sound.proofs.Held.{lua_settles}
use Rattle.machine_sound.proofs.Lists.{each_none, each_one, bind_at, last_push, some_is}
use Rattle.machine_sound.proofs.Values.{arg_valid}
use Rattle.machine_sound.proofs.Grow.{Grows, grows_then, values_on}
use Rattle.machine_sound.proofs.Own.{OwnIs}
use Rattle.machine_sound.proofs.Frames.{the_place, place_is, stack_is, top_put, top_ok, function_ok, own_known, new_grows, new_solid, new_top, new_world}
use Rattle.machine_sound.proofs.Waits.{waits_stack, with_moving, moving_grows, moving_solid}
use Rattle.machine_sound.proofs.Calls.{fuel_top}
use Rattle.machine_sound.proofs.RowsOfCode.{text_safe}
use Rattle.machine_sound.proofs.Rests.{rest_text_safe}
use Rattle.machine_sound.proofs.Asking.{asking_safe}
use Rattle.machine_sound.proofs.All.{all_rows_good}
use Rattle.machine_sound.proofs.Tops.{same_top}

-- a step that costs a unit while none is left changes nothing
pub from_world_good : (n : ℕ) (W : World) (o : Outcome) → Sound n W → Good n o → StepGood n (from_world W o)
from_world_good n W trapped s g = absurd g
from_world_good n W (ends spent V) s g = record { sound = s; ready = tt }
from_world_good n W (ends go V) s g = record { sound = record { solid = g.0; rests = on_top g.1 }; ready = g.1 }
from_world_good n W (ends (calls_primitive k) V) s g = record { sound = record { solid = g.0; rests = all_wait g.1.all }; ready = g.1 }
from_world_good n W (ends main_yielded V) s g = record { sound = record { solid = g.0; rests = idle g.1 }; ready = g.1 }
from_world_good n W (ends main_returned V) s g = record { sound = record { solid = g.0; rests = idle g.1 }; ready = g.1 }
from_world_good n W (ends main_failed V) s g = record { sound = record { solid = g.0; rests = idle g.1 }; ready = g.1 }
from_world_good n W _ s g = record { sound = record { solid = g.0; rests = all_wait g.1 }; ready = g.1 }

-- a Lua frame on top of a sound world fits its place or its wait
pub settles : (n : ℕ) (W : World) (p : Place) → Sound n W → place_of W ≡ Some p → Settled n W
settles n W p s e = by s.rests
  where
    under : (h : StackWaits n W) → (o : Option Frame) → last h.frames ≡ o → bind (bind o lua_frame) (λ top. bind (slice_get W.functions top.function) (λ f. Some (record { stack = record { coroutine = h.coroutine; frames = h.frames }; number = length h.frames - 1; top = top; function = f }))) ≡ Some p → top_shape W o ≡ lua_top
    under h None q k = absurd (cc)
    under h (Some (lua f)) q k = refl
    under h (Some pcall) q k = absurd (cc)
    under h (Some (xpcall v)) q k = absurd (cc)
    under h (Some handler) q k = absurd (cc)
    under h (Some (closing v vs)) q k = absurd (cc)

    by : Rests n W → Settled n W
    by (idle c) = absurd (let z : None ≡ Some p = sym (ap (λ l. bind (bind (last l) (λ co. bind (bind (slice_get W.coroutines co) running_frames) (λ frames. Some (record { coroutine = co; frames = frames })))) (λ (s : Stack). bind (bind (last s.frames) lua_frame) (λ top. bind (slice_get W.functions top.function) (λ f. Some (record { stack = s; number = length s.frames - 1; top = top; function = f }))))) c) ∙ e in cc)
    by (on_top k) = k
    by (all_wait h) =
        let x = bind_at (λ (s : Stack). bind (bind (last s.frames) lua_frame) (λ top. bind (slice_get W.functions top.function) (λ f. Some (record { stack = s; number = length s.frames - 1; top = top; function = f })))) (stack_of W) (record { coroutine = h.coroutine; frames = h.frames }) (waits_stack n W h) in
        lua_settles n W s.solid (record { all = h; top = under h (last h.frames) refl (sym x ∙ e) })

pub goes_from_sound : GoesFromSound
goes_from_sound n W p s e = record { sound = s; ready = settles n W p s e }

-- the step of the frame on top
pub top_step_is : (n : ℕ) (t : Top) (W : World) (h : TopIs n t W) → top_step W ≡ Some (lua_step W (record { coroutine = h.coroutine; frames = h.base ++ lua h.top ∷ [] }) h.top h.function.code h.top.wait)
top_step_is n t W h =
    bind_at _ (stack_of W) _ (stack_is W h.coroutine (h.base ++ lua h.top ∷ []) h.last h.frames)
    ∙ bind_at _ (last (h.base ++ lua h.top ∷ [])) (lua h.top) (last_push h.base (lua h.top))
    ∙ bind_at _ (slice_get W.functions h.top.function) h.function h.there

module _ (n : ℕ) (t : Top) (W : World) (h : TopIs n t W) (s : Solid n W) where
  code_checked : CodeIsChecked t.code
  code_checked = subst CodeIsChecked h.code (function_ok n t W h s).code.code

  -- the bounds that every frame has
  abbrev usual : Top
  usual = record t { pending = t.code.own.stack; cells = t.code.own.stack }

  usual_is : t.cells ≤ t.code.own.stack → TopIs n usual W
  usual_is l =
      let k = own_known n t W h s in
      let q = ap (λ (p : Prototype). p.own.stack) h.code in
      same_top n t W W h t.code.own.stack t.code.own.stack t.captured h.last h.frames h.there h.below (subst (λ m. Each (λ r. r < m) h.top.own.pending) q k.pending)
      (λ i r e. (let a = h.cells i r e in omega arith)) h.captured h.wait

  -- a frame that runs
  pub runs_good : t.runs ≡ true → Fits t → Good n (run (expand (text_at h.function.code h.top.own.pc)) [] W)
  runs_good r f =
      let u = usual_is f.cells in
      let f' : Fits usual = record { instruction = f.instruction; at_pc = f.at_pc; opcode = f.opcode; is_opcode = f.is_opcode; no_extra = f.no_extra; fits_mark = f.fits_mark; cells = omega arith } in
      let x = text_safe usual code_checked f' refl refl r in
      let g = all_rows_good n (expand (text_at t.code t.pc)) (on_lua usual) [] W (record { solid = s; phase = u; valid = each_none (Valid (sizes n W)) }) x in
      subst (λ p. Good n (run (expand (text_at p h.top.own.pc)) [] W)) (sym h.code) (subst (λ pc. Good n (run (expand (text_at t.code pc)) [] W)) (sym h.pc) g)

  -- a frame that waited, once it runs again
  abbrev pub woken_top : Top
  woken_top = record { code = t.code; pc = t.pc; size = t.size; opened = t.opened; pending = t.code.own.stack; cells = t.size; captured = []; runs = true }

  pub known_woken : OwnIs (sizes n W) W.cells h.function.code h.coroutine (length h.base) woken_top h.top.own W.cells
  known_woken =
      let k = own_known n t W h s in
      let q = ap (λ (p : Prototype). p.own.stack) h.code in
      record {
        code = k.code;
        pc = k.pc;
        size = k.size;
        opened = k.opened;
        bound = subst (λ m. Each (λ r. r < m) h.top.own.pending) q k.pending;
        stack = k.stack;
        registers = k.registers;
        varargs = k.varargs;
        pending = k.pending;
        cells_below = k.cells_there;
        cells_there = k.cells_there;
        still_open = k.still_open;
        closed_ok = k.closed_ok;
        count = k.count;
        captured = each_none (λ r. IsSome (find_open h.coroutine (length h.base) r W.cells));
      }

  abbrev pub woken_world : World
  woken_world = new_world n t W h s woken_top running h.top.own W.cells known_woken tt

  pub woken_solid : Solid n woken_world
  woken_solid = new_solid n t W h s woken_top running h.top.own W.cells known_woken tt

  pub woken_top_is : TopIs n woken_top woken_world
  woken_top_is = new_top n t W h s woken_top running h.top.own W.cells known_woken tt refl

  grows_p : Grows (sizes n W) (sizes n woken_world)
  grows_p = new_grows n t W h s woken_top running h.top.own W.cells known_woken tt

  pub woken_is : woken W (record { coroutine = h.coroutine; frames = h.base ++ lua h.top ∷ [] }) h.top ≡ with_moving woken_world [] woken_world.fuel
  unfolding woken
  woken_is = ap (λ (V : World). record V { moving = [] }) (top_put W (record { coroutine = h.coroutine; frames = h.base ++ lua h.top ∷ [] }) h.base h.top (record h.top { wait = running }) refl)

  module _ (w : LuaWaits (sizes n W) h.top) where
    told_ok : (wait : Wait Value) → WaitOk (sizes n W) wait → Each (Valid (sizes n W)) (told_values wait (values W.moving))
    told_ok (leaving e) k = each_one (Valid (sizes n W)) e k
    told_ok (for_concat (suc c)) k = each_one (Valid (sizes n W)) (nth W.moving 0) (arg_valid (sizes n W) W.moving (read 0) s.moving tt)
    told_ok _ k = s.moving

    step_is : (wait : Wait Value) (op : Opcode) (i : Instruction) → IsTrue (waits_at wait op i) → lua_step W (record { coroutine = h.coroutine; frames = h.base ++ lua h.top ∷ [] }) h.top h.function.code wait ≡ run (goes_on_by (rest_at wait h.function.code h.top.own.pc)) (told_values wait (values W.moving)) (woken W (record { coroutine = h.coroutine; frames = h.base ++ lua h.top ∷ [] }) h.top)
    step_is running op i f = absurd (cc)
    step_is _ op i f = refl

    pub waited_good : Good n (lua_step W (record { coroutine = h.coroutine; frames = h.base ++ lua h.top ∷ [] }) h.top h.function.code h.top.wait)
    waited_good =
        let wait = h.top.wait in
        let vs = told_values wait (values W.moving) in
        let V = with_moving woken_world [] woken_world.fuel in
        let e : w.function ≡ h.function = some_is w.there h.there in
        let c : w.function.code ≡ t.code = ap (λ (f : Function). f.code) e ∙ h.code in
        let at_pc : at t.code t.pc ≡ Some w.instruction = ap (λ p. at p t.pc) (sym c) ∙ ap (at w.function.code) (sym h.pc) ∙ w.at_pc in
        let size : t.size ≡ waiting_size wait w.instruction t.code.own.stack = sym h.size ∙ w.size ∙ ap (λ (p : Prototype). waiting_size wait w.instruction p.own.stack) c in
        let x = rest_text_safe wait w.opcode woken_top w.instruction vs (record { checked = code_checked; at_pc = at_pc; is_opcode = w.is_opcode; pending = refl; cells = refl; opened = sym h.opened ∙ w.opened; runs = refl }) w.fits size in
        let ok = (top_ok n t W h s).error in
        let g = grows_then (sizes n W) (sizes n woken_world) (sizes n V) grows_p (moving_grows n woken_world [] woken_world.fuel) in
        let i : Is n (on_lua woken_top) vs V = record { solid = moving_solid n woken_world [] woken_world.fuel woken_solid (each_none (Valid (sizes n woken_world))); phase = fuel_top n woken_top woken_world [] woken_world.fuel woken_solid woken_top_is (each_none (Valid (sizes n woken_world))); valid = values_on (sizes n W) (sizes n V) g vs (told_ok wait ok) } in
        let r = all_rows_good n (goes_on_by (rest_at wait t.code t.pc)) (on_lua woken_top) vs V i (asking_safe (rest_at wait t.code t.pc) (on_lua woken_top) vs x) in
        let r' = subst (λ p. Good n (run (goes_on_by (rest_at wait p h.top.own.pc)) vs V)) (sym h.code) (subst (λ pc. Good n (run (goes_on_by (rest_at wait t.code pc)) vs V)) (sym h.pc) r) in
        subst (λ o. Good n o) (sym (step_is wait w.opcode w.instruction w.fits)) (subst (λ V. Good n (run (goes_on_by (rest_at wait h.function.code h.top.own.pc)) vs V)) (sym woken_is) r')

-- either
lua_step_good : (n : ℕ) (t : Top) (W : World) (h : TopIs n t W) (s : Solid n W) (b : Bool) → t.runs ≡ b → RunsOrWaits b (sizes n W) h.top → FitsIfRuns b t → Good n (lua_step W (record { coroutine = h.coroutine; frames = h.base ++ lua h.top ∷ [] }) h.top h.function.code h.top.wait)
lua_step_good n t W h s true e w f = subst (λ wait. Good n (lua_step W (record { coroutine = h.coroutine; frames = h.base ++ lua h.top ∷ [] }) h.top h.function.code wait)) (sym w) (runs_good n t W h s e f)
lua_step_good n t W h s false e w f = waited_good n t W h s w

pub go_good : (n : ℕ) (primitives : ℕ → Row) (W : World) → Sound n W → Settled n W → StepGood n (step primitives go W)
go_good n primitives W s k =
    let h = k.is_top in
    let g = lua_step_good n k.top W h s.solid k.top.runs refl h.wait k.fits in
    from_world_good n W (step_by primitives go W) s (subst (λ (o : Option Outcome). Good n (elim o [ None ↦ trapped | Some o ↦ o ])) (sym (top_step_is n k.top W h)) g)

-- the same for the place of the machine

the_same : (n : ℕ) (W : World) (p : Place) (k : Settled n W) → place_of W ≡ Some p → the_place n k.top W k.is_top ≡ p
the_same n W p k e = some_is (place_is n k.top W k.is_top) e

pub running_text_good : (n : ℕ) (W : World) (p : Place) → Solid n W → Settled n W → place_of W ≡ Some p → p.top.wait ≡ running → Good n (run (expand (text_at p.function.code p.top.own.pc)) [] W)
running_text_good n W p s k e w =
    let h = k.is_top in
    let q = the_same n W p k e in
    let w' : h.top.wait ≡ running = ap (λ (p : Place). p.top.wait) q ∙ w in
    let g = subst (λ wait. Good n (lua_step W (record { coroutine = h.coroutine; frames = h.base ++ lua h.top ∷ [] }) h.top h.function.code wait)) w' (lua_step_good n k.top W h s k.top.runs refl h.wait k.fits) in
    subst (λ (p : Place). Good n (run (expand (text_at p.function.code p.top.own.pc)) [] W)) q g

pub waiting_text_good : (n : ℕ) (W : World) (p : Place) → Solid n W → Settled n W → place_of W ≡ Some p → (p.top.wait ≡ running → ⊥) → Good n (run (goes_on_by (rest_at p.top.wait p.function.code p.top.own.pc)) (told_values p.top.wait (values W.moving)) (woken W p.stack p.top))
waiting_text_good n W p s k e w =
    let h = k.is_top in
    let q = the_same n W p k e in
    let g = lua_step_good n k.top W h s k.top.runs refl h.wait k.fits in
    subst (λ (p : Place). Good n (run (goes_on_by (rest_at p.top.wait p.function.code p.top.own.pc)) (told_values p.top.wait (values W.moving)) (woken W p.stack p.top))) q
    (from h.top.wait g (λ r. w (ap (λ (p : Place). p.top.wait) (sym q) ∙ r)))
  where
    from : (wait : Wait Value) → Good n (lua_step W (record { coroutine = k.is_top.coroutine; frames = k.is_top.base ++ lua k.is_top.top ∷ [] }) k.is_top.top k.is_top.function.code wait) → (wait ≡ running → ⊥)
        → Good n (run (goes_on_by (rest_at wait k.is_top.function.code k.is_top.top.own.pc)) (told_values wait (values W.moving)) (woken W (record { coroutine = k.is_top.coroutine; frames = k.is_top.base ++ lua k.is_top.top ∷ [] }) k.is_top.top))
    from running g r = absurd (r refl)
    from (leaving e) g r = g
    from for_call g r = g
    from for_iterator g r = g
    from for_value g r = g
    from for_truth g r = g
    from dropped g r = g
    from (for_concat c) g r = g
    from for_close g r = g
    from (returning c) g r = g

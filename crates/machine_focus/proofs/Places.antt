-- Moves in a world whose running frame is held apart.
use Rattle.std.proofs.Common.{◌≡◌, ℕ, zero, suc, ◌-◌, List, [], ◌∷◌, ◌++◌, length, Some, None, refl, ap, ◌∙◌, arith, length-append}
use Rattle.std.specs.Prelude.{ℤ, cond, slice_get, slice_set}
use Rattle.std.proofs.Math.Path.{fun_ext}
use Rattle.code_core.specs.Check.{at}
use Rattle.int_core.specs.Value.{Value, bind, last}
use Rattle.int_core.specs.Operations.{Operation, does}
use Rattle.machine_core.specs.World.{running, Activation, lua, in_progress, World, lua_frame, running_frames, stack_of, place_of, put_frames, put_top}
use Rattle.machine_core.specs.Text.{Arg, args_of, Own, reads, tells, effect, fits, Quick}
use Rattle.machine_core.specs.InstructionRows.{text_at}
use Rattle.machine_core.specs.FrameRows.{expand}
use Rattle.machine_core.specs.Moves.{on_own, move_pc, outside, settle, made, move, with_own, cells_after, do_own, moved_pc, do_outside, settled, place_from, go, Row, trapped, run}
use Rattle.machine_core.specs.MachineStep.{lua_step, frame_step, from_world, step}
use Rattle.machine_sound.proofs.Lists.{last_push, without_push, get_set_same, get_there}
use Rattle.machine_focus.specs.Focus.{Context, Held, top, frames, world, stack, place, Stands, held_own, with_pc}

pub set_set : {A : Type 0} (xs : List A) (i : ℕ) (x y : A) → slice_set (slice_set xs i x) i y ≡ slice_set xs i y
set_set [] i x y = refl
set_set (z ∷ xs) zero x y = refl
set_set (z ∷ xs) (suc i) x y = ap (λ l. z ∷ l) (set_set xs i x y)

pub put_top_is : (c : Context) (h : Held) (a : Activation) → put_top (world c h) (stack c h) (lua (top c a)) ≡ world c (record h { own = a })
unfolding put_top put_frames
put_top_is c h a =
    ap (λ fs. record c.base { heap = h.heap; cells = h.cells; coroutines = slice_set (slice_set c.base.coroutines c.coroutine (in_progress (frames c h.own))) c.coroutine (in_progress (fs ++ lua (top c a) ∷ [])); moving = []; fuel = h.fuel }) (without_push c.below (lua (top c h.own)))
    ∙ ap (λ cs. record c.base { heap = h.heap; cells = h.cells; coroutines = cs; moving = []; fuel = h.fuel }) (set_set c.base.coroutines c.coroutine (in_progress (frames c h.own)) (in_progress (frames c a)))

module _ (c : Context) (s : Stands c) (h : Held) where
  pub stack_is : stack_of (world c h) ≡ Some (stack c h)
  stack_is =
      let t = get_there c.base.coroutines c.coroutine s.there in
      ap (λ o. bind o (λ co. bind (bind (slice_get (slice_set c.base.coroutines c.coroutine (in_progress (frames c h.own))) co) running_frames) (λ frames. Some (record { coroutine = co; frames = frames })))) s.chain
      ∙ ap (λ o. bind (bind o running_frames) (λ frames. Some (record { coroutine = c.coroutine; frames = frames }))) (get_set_same c.base.coroutines c.coroutine t.0 (in_progress (frames c h.own)) t.1)

  pub place_is : place_of (world c h) ≡ Some (place c h)
  place_is =
      ap (λ o. bind o (λ s. bind (bind (last s.frames) lua_frame) (λ top. bind (slice_get c.base.functions top.function) (λ f. Some (record { stack = s; number = length s.frames - 1; top = top; function = f }))))) stack_is
      ∙ ap (λ o. bind (bind o lua_frame) (λ top. bind (slice_get c.base.functions top.function) (λ f. Some (record { stack = stack c h; number = length (frames c h.own) - 1; top = top; function = f })))) (last_push c.below (lua (top c h.own)))
      ∙ ap (λ o. bind o (λ f. Some (record { stack = stack c h; number = length (frames c h.own) - 1; top = top c h.own; function = f }))) s.function
      ∙ ap (λ k. Some (record { stack = stack c h; number = k; top = top c h.own; function = c.closure })) (let l = length-append c.below (lua (top c h.own) ∷ []) in omega arith)

  pub own_move : (m : Own) (env : List Value) → move (on_own m) env (world c h) ≡ cond (fits m c.closure.code h.own) (made (world c (held_own c m env h)) (reads m c.closure.code env h.own) (tells m c.closure.code env h.own)) None
  unfolding with_own
  own_move m env =
      ap (λ o. bind o (do_own m env (world c h))) place_is
      ∙ ap (λ W. cond (fits m c.closure.code h.own) (made W (reads m c.closure.code env h.own) (tells m c.closure.code env h.own)) None)
      (put_top_is c (record h { cells = cells_after m c.coroutine (length c.below) h.own h.cells }) (effect m c.closure.code env h.own))

  pub pc_move : (z : ℤ) (env : List Value) → move (move_pc z) env (world c h) ≡ bind (place_from h.own.pc z) (λ pc. bind (at c.closure.code pc) (λ _. made (world c (with_pc h pc)) [] tt))
  pc_move z env =
      ap (λ o. bind o (λ p. moved_pc (world c h) p z)) place_is
      ∙ ap (λ (F : ℕ → World). bind (place_from h.own.pc z) (λ pc. bind (at c.closure.code pc) (λ _. made (F pc) [] tt)))
      (fun_ext (λ pc. put_top_is c h (record h.own { pc = pc })))

  pub quick_move : (q : Quick) (env : List Value) → move (outside q) env (world c h) ≡ do_outside q env (world c h) (place c h)
  quick_move q env = ap (λ o. bind o (do_outside q env (world c h))) place_is

  pub settle_move : (op : Operation) (xs : List Arg) (env : List Value) → move (settle op xs) env (world c h) ≡ settled (world c h) (place c h) (does op (args_of env xs) h.heap)
  settle_move op xs env = ap (λ o. bind o (λ p. settled (world c h) p (does op (args_of env xs) h.heap))) place_is

  pub step_is : (rows : ℕ → Row) → step rows go (world c h) ≡ from_world (world c h) (run (expand (text_at c.closure.code h.own.pc)) [] (world c h))
  step_is rows = ap (λ o. from_world (world c h) (elim o [ None ↦ trapped | Some o ↦ o ])) (
      ap (λ o. bind o (λ s. bind (last s.frames) (frame_step (world c h) s))) stack_is
      ∙ ap (λ o. bind o (frame_step (world c h) (stack c h))) (last_push c.below (lua (top c h.own)))
      ∙ ap (λ o. bind o (λ g. Some (lua_step (world c h) (stack c h) (top c h.own) g.code running))) s.function)

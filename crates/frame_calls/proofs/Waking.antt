-- A Lua frame that waits goes on with what moves, whatever it waits for.
use Rattle.std.proofs.Common.{◌≡◌, ℕ, List, [], ◌∷◌, ◌++◌, Some, None, refl, ap, ◌∙◌}
use Rattle.code_core.specs.Prototype.{Prototype}
use Rattle.int_core.specs.Heap.{Heap}
use Rattle.int_core.specs.Value.{Value, bind, last}
use Rattle.machine_core.specs.World.{Cell, Wait, running, Activation, LuaFrame, Frame, lua, World, Stack}
use Rattle.machine_core.specs.InstructionRows.{arrived, rest_at}
use Rattle.machine_core.specs.FrameRows.{by_asking, goes_on_by}
use Rattle.machine_core.specs.Moves.{Row, ends, go, run, trapped}
use Rattle.machine_core.specs.MachineStep.{frame_step, from_world, lua_step, step, woken}
use Rattle.machine_focus.specs.Focus.{Context, Held, Stands, local, stacked, top, world}
use Rattle.machine_focus.proofs.Calls.{put_is, stack_at, stacked_is}
use Rattle.machine_focus.proofs.Local.{local_is}
use Rattle.machine_sound.proofs.Lists.{last_push}

-- what is left of its instruction is done with the values that came
waits_step : (W : World) (s : Stack) (f : LuaFrame) (p : Prototype) (wait : Wait Value) → (wait ≡ running → ⊥)
    → lua_step W s f p wait ≡ run (goes_on_by (rest_at {V = Value} wait p f.own.pc)) (arrived wait W.moving) (woken W s f)
waits_step W s f p running n = absurd (n refl)
waits_step W s f p _ n = refl

module _ (c : Context) (s : Stands c) (a : Activation) (H : Heap) (cs : List Cell) (fuel : ℕ) (vs : List Value) (wait : Wait Value) where
  abbrev pub waiting : LuaFrame
  waiting = record { function = c.function; wait = wait; own = a }

  abbrev pub frames_now : List Frame
  frames_now = c.below ++ lua waiting ∷ []

  abbrev pub before_it : World
  before_it = stacked c.base c.coroutine frames_now H cs fuel vs

  woken_is : woken before_it (stack_at c.coroutine frames_now) waiting ≡ world c (record { heap = H; cells = cs; fuel = fuel; own = a })
  unfolding woken
  woken_is = ap (λ (W : World). record W { moving = [] }) (put_is c.base c.coroutine s.chain s.there H cs fuel vs c.below (lua waiting) (lua (top c a)))

  pub woken_step : (wait ≡ running → ⊥) → arrived wait vs ≡ vs → (k : Held) (rows : ℕ → Row) → local c (rest_at {V = Value} wait c.closure.code a.pc) vs (record { heap = H; cells = cs; fuel = fuel; own = a }) ≡ Some k
      → step rows go before_it ≡ ends go (world c k)
  woken_step n all k rows e =
      let t = rest_at {V = Value} wait c.closure.code a.pc in
      let at_top = stack_at c.coroutine frames_now in
      ap (λ o. from_world before_it (elim o [ None ↦ trapped | Some o ↦ o ])) (
      ap (λ o. bind o (λ s. bind (last s.frames) (frame_step before_it s))) (stacked_is c.base c.coroutine s.chain s.there H cs fuel vs frames_now)
      ∙ ap (λ o. bind o (frame_step before_it at_top)) (last_push c.below (lua waiting))
      ∙ ap (λ o. bind o (λ g. Some (lua_step before_it at_top waiting g.code wait))) s.function
      ∙ ap (λ o. Some o) (waits_step before_it at_top waiting c.closure.code wait n)
      ∙ ap (λ us. Some (run (goes_on_by t) us (woken before_it at_top waiting))) all
      ∙ ap (λ W. Some (run (goes_on_by t) vs W)) woken_is
      ∙ ap (λ o. Some o) (local_is c s by_asking t vs (record { heap = H; cells = cs; fuel = fuel; own = a }) k e))

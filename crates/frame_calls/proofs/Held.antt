-- A world in which nothing moves is its frame on top put together with what stays while that runs.
use Rattle.std.proofs.Common.{◌≡◌, ℕ, List, [], ◌∷◌, ◌++◌, Some, ap, sym, ◌∙◌}
use Rattle.int_core.specs.Value.{Value, without_last}
use Rattle.machine_core.specs.World.{Wait, running, Activation, LuaFrame, Frame, lua, in_progress, World, Place, place_of}
use Rattle.machine_core.specs.Moves.{go, Row, ends}
use Rattle.machine_core.specs.MachineStep.{steps}
use Rattle.machine_sound.proofs.Lists.{get_within, last_splits}
use Rattle.machine_focus.specs.Focus.{Context, Stands, world, stacked, Reaches}
use Rattle.move_laws.proofs.Places.{place_is, stack_is}
use Rattle.move_laws.proofs.Running.{set_same}

pub reaches_by : (rows : ℕ → Row) {A B C D : World} → A ≡ B → C ≡ D → Reaches rows B C → Reaches rows A D
reaches_by rows p q r = (r.0, ap (steps rows r.0 go) p ∙ r.1 ∙ ap (ends go) q)

-- frames and activations by their parts

abbrev pub frame_with : ℕ → Wait Value → Activation → LuaFrame
frame_with function wait own = record { function = function; wait = wait; own = own }

pub frame_is : (t : LuaFrame) (function : ℕ) (own : Activation) → t.function ≡ function → t.wait ≡ running → t.own ≡ own → t ≡ frame_with function running own
frame_is t function own f w o =
    ap (λ n. frame_with n t.wait t.own) f
    ∙ ap (λ w. frame_with function w t.own) w
    ∙ ap (frame_with function running) o

abbrev activation : ℕ → (registers varargs : List Value) → (pending : List ℕ) → (opened : ℕ) → Activation
activation pc registers varargs pending opened = record { pc = pc; registers = registers; varargs = varargs; pending = pending; opened = opened }

pub activation_is : (a : Activation) (pc : ℕ) (registers varargs : List Value) (pending : List ℕ) (opened : ℕ)
    → a.pc ≡ pc → a.registers ≡ registers → a.varargs ≡ varargs → a.pending ≡ pending → a.opened ≡ opened → a ≡ activation pc registers varargs pending opened
activation_is a pc registers varargs pending opened p r v q o =
    ap (λ pc. activation pc a.registers a.varargs a.pending a.opened) p
    ∙ ap (λ registers. activation pc registers a.varargs a.pending a.opened) r
    ∙ ap (λ varargs. activation pc registers varargs a.pending a.opened) v
    ∙ ap (λ pending. activation pc registers varargs pending a.opened) q
    ∙ ap (activation pc registers varargs pending) o

-- the context of a world's frame on top

abbrev pub context_at : World → Place → Context
context_at W at = record { base = W; coroutine = at.stack.coroutine; below = without_last at.stack.frames; function = at.top.function; closure = at.function }

module _ (W : World) (at : Place) (e : place_of W ≡ Some at) where
  pub stands_at : Stands (context_at W at)
  stands_at =
      let p = place_is W at e in
      let k = stack_is W at.stack p.stack in
      record {
        chain = k.chain;
        there = get_within W.coroutines at.stack.coroutine (in_progress at.stack.frames) k.there;
        function = p.function;
      }

  -- its own frames in place of its own frames
  pub stacked_same : (fs : List Frame) (fuel : ℕ) → W.moving ≡ [] → fs ≡ at.stack.frames → stacked W at.stack.coroutine fs W.heap W.cells fuel [] ≡ record W { fuel = fuel }
  stacked_same fs fuel m f =
      let k = stack_is W at.stack (place_is W at e).stack in
      ap (λ fs. stacked W at.stack.coroutine fs W.heap W.cells fuel []) f
      ∙ ap (λ cs. record W { coroutines = cs; moving = []; fuel = fuel }) (set_same W.coroutines at.stack.coroutine (in_progress at.stack.frames) k.there)
      ∙ ap (λ (vs : List Value). record W { moving = vs; fuel = fuel }) (sym m)

  -- whatever moves
  pub stacked_moving : (fs : List Frame) (fuel : ℕ) → fs ≡ at.stack.frames → stacked W at.stack.coroutine fs W.heap W.cells fuel W.moving ≡ record W { fuel = fuel }
  stacked_moving fs fuel f =
      let k = stack_is W at.stack (place_is W at e).stack in
      ap (λ fs. stacked W at.stack.coroutine fs W.heap W.cells fuel W.moving) f
      ∙ ap (λ cs. record W { coroutines = cs; fuel = fuel }) (set_same W.coroutines at.stack.coroutine (in_progress at.stack.frames) k.there)

  -- and the frame on top in its place, where it runs
  pub world_same : (fuel : ℕ) → W.moving ≡ [] → at.top.wait ≡ running → world (context_at W at) (record { heap = W.heap; cells = W.cells; fuel = fuel; own = at.top.own }) ≡ record W { fuel = fuel }
  world_same fuel m w =
      stacked_same (without_last at.stack.frames ++ lua (frame_with at.top.function running at.top.own) ∷ []) fuel m (
      ap (λ w. without_last at.stack.frames ++ lua (frame_with at.top.function w at.top.own) ∷ []) (sym w)
      ∙ sym (last_splits at.stack.frames (lua at.top) (place_is W at e).top))

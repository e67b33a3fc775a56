-- A measure of worlds that each step makes smaller: what a step costs is taken from the budget, and between two units frames come forward or are left.
use Rattle.std.specs.Prelude.{ℕ, zero, suc, ◌+◌, ◌*◌, ◌-◌, ◌≤◌, List, [], ◌∷◌, length, Option, Some}
use Rattle.code_core.specs.Prototype.{instruction_count}
use Rattle.machine_core.specs.World.{Function, Wait, running, for_concat, LuaFrame, Frame, lua, pcall, xpcall, handler, closing, Coroutine, fresh, suspended, in_progress, normal, dead, failed, World}
use Rattle.machine_core.specs.Moves.{TopShape, handler_top, top_now, Ending, go, returned, asks, calls_primitive, raised, unwinding}
use Rattle.machine_sound.specs.Sound.{Each}

-- no function of a world has more instructions, with those that are defined in it; a function that is made is one of these
abbrev pub Within : (most : ℕ) → World → Type 0
Within most W = Each (λ (f : Function). instruction_count f.code ≤ most) W.functions

-- a frame that goes on with a concatenation has the fewer operands left
abbrev pub wait_weight : {V : Type 0} → Wait V → ℕ
wait_weight running = 30
wait_weight (for_concat left) = 20 + 10 * left
wait_weight _ = 0

-- what is asked for over a message handler's frame is not raised where it cannot be called
abbrev pub asks_weight : Option TopShape → ℕ
asks_weight (Some handler_top) = 3
asks_weight _ = 8

module _ (most : ℕ) where
  -- how far the frame has to go, and how many variables it has to close
  abbrev pub own_weight : LuaFrame → ℕ
  own_weight f = 3 + (40 * (most - f.own.pc) + 20 * length f.own.pending)

  abbrev pub frame_weight : Frame → ℕ
  frame_weight (lua f) = own_weight f + wait_weight f.wait
  frame_weight pcall = 3
  frame_weight (xpcall h) = 3
  frame_weight handler = 3
  frame_weight (closing e left) = 3 + 20 * length left

  abbrev pub frames_weight : List Frame → ℕ
  frames_weight [] = 0
  frames_weight (f ∷ fs) = frame_weight f + frames_weight fs

  abbrev pub coroutine_weight : Coroutine → ℕ
  coroutine_weight (fresh body) = 5
  coroutine_weight (suspended fs) = frames_weight fs
  coroutine_weight (in_progress fs) = frames_weight fs
  coroutine_weight (normal fs) = frames_weight fs
  coroutine_weight dead = 0
  coroutine_weight (failed e pending) = 20 * length pending

  abbrev pub coroutines_weight : List Coroutine → ℕ
  coroutines_weight [] = 0
  coroutines_weight (c ∷ cs) = coroutine_weight c + coroutines_weight cs

  -- what a unit of the budget pays for: a new frame or a jump back, and what the frame that called waits for
  abbrev pub unit_weight : ℕ
  unit_weight = 40 * most + 3000

  abbrev pub units_weight : ℕ → ℕ
  units_weight zero = 0
  units_weight (suc fuel) = unit_weight + units_weight fuel

  abbrev pub world_weight : World → ℕ
  world_weight W = units_weight W.fuel + (coroutines_weight W.coroutines + 3 * length W.chain)

  -- a call that is paid may push a frame
  abbrev pub ending_weight : Ending → World → ℕ
  ending_weight go W = 0
  ending_weight returned W = 1
  ending_weight unwinding W = 2
  ending_weight raised W = 7
  ending_weight asks W = asks_weight (top_now W)
  ending_weight (calls_primitive n) W = 40 * most + 100
  ending_weight _ W = 0

  abbrev pub measure : Ending → World → ℕ
  measure e W = world_weight W + ending_weight e W

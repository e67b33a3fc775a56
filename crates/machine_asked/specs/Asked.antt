-- Values that were asked for and are called, in the words of rows.
use Rattle.std.specs.Prelude.{◌≡◌, ℕ, List, ◌++◌, Option, Some, None}
use Rattle.int_core.specs.Value.{Value}
use Rattle.machine_core.specs.World.{World}
use Rattle.machine_core.specs.Moves.{Made, CallShape, enters, see_top, Ending, act, Outcome, trapped, ends, run}
use Rattle.machine_core.specs.FrameRows.{after_asked, refused_under}
use Rattle.machine_core.specs.MachineStep.{from_world}
use Rattle.lua_heap.specs.declared.world.World.{World as Memory}
use Rattle.lua_heap.specs.Plain.{plain}
use Rattle.machine_errors.specs.Asking.{taken}

-- what cannot be called is an error of the frame on top; `unpaid` is where a step begins
pub record RefusesAsked (old new : Memory) (text : List ℕ) (ending : Ending) : Type 0 where
  pub is : (fuel : ℕ) (env : List Value) (unpaid : World)
      → from_world unpaid (run (act see_top (λ _ top. refused_under top text)) env (taken old fuel)) ≡ ends ending (plain new fuel)

-- what follows a call
abbrev pub follows_asked : List Value → Option (Made CallShape) → Outcome
follows_asked env o = elim o [ None ↦ trapped | Some d ↦ run (after_asked d.told) (env ++ d.values) d.world ]

-- a function is entered, once that is paid
pub record EntersAsked (old new : Memory) (f : Value) (arguments : List Value) (ending : Ending) : Type 0 where
  pub is : (fuel : ℕ) (env : List Value) (unpaid : World) → from_world unpaid (follows_asked env (enters (taken old fuel) f arguments)) ≡ ends ending (plain new fuel)

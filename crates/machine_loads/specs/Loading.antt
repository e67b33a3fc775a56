-- Functions of loaded code, and what is handed over.
use Rattle.std.specs.Prelude.{◌≡◌, ℕ, List, length}
use Rattle.int_core.specs.Value.{Value}
use Rattle.code_core.specs.Prototype.{Prototype}
use Rattle.machine_core.specs.World.{World}
use Rattle.machine_core.specs.FrameRows.{hand_over}
use Rattle.machine_core.specs.Moves.{add_loaded, environment_in, Ending, ends, run}
use Rattle.machine_core.specs.PrimitiveRows.{environment_at}
use Rattle.lua_heap.specs.declared.world.World.{World as Memory}
use Rattle.lua_heap.specs.Plain.{plain}

-- the fourth value on its way, or the globals where there is none
abbrev pub given_environment : World → Value
given_environment W = environment_in W W.moving (environment_at 0 (length W.moving))

-- a function of this code comes last, with that environment
abbrev pub with_loaded : World → Prototype → World
with_loaded W p = add_loaded W p (given_environment W)

pub record MakesLoaded (old new : Memory) (p : Prototype) (id : ℕ) : Type 0 where
  pub number : id ≡ length old.funcs.objects
  pub plain : (fuel : ℕ) → plain new fuel ≡ with_loaded (plain old fuel) p

-- these values are handed over to the frame on top of a world that hangs on the budget
pub record HandsOver (W : ℕ → World) (vs : List Value) (new : Memory) (ending : Ending) : Type 0 where
  pub is : (env : List Value) (fuel : ℕ) → run hand_over env (record (W fuel) { moving = vs }) ≡ ends ending (plain new fuel)

-- The main coroutine, which is resumed with what moves.
use Rattle.std.specs.Prelude.{◌≡◌, ℕ, Option, Some, None, slice_get}
use Rattle.machine_core.specs.Moves.{Ending, ends}
use Rattle.machine_runs.specs.Runs.{wakes}
use Rattle.table_core.specs.declared.value.CoroId.{CoroId}
use Rattle.table_core.specs.declared.value.Value.{Value as Kept}
use Rattle.lua_stack.specs.Frames.{KeptStack}
use Rattle.lua_heap.specs.declared.world.Coro.{Coro}
use Rattle.lua_heap.specs.declared.world.Coro.TheVariants.{Fresh, Suspended}
use Rattle.lua_heap.specs.declared.world.World.{World as Memory}
use Rattle.lua_heap.specs.Plain.{plain}

-- the function that a coroutine is to begin with, where it has not begun
abbrev pub body_in : Coro → Option Kept
body_in (Fresh body) = Some body
body_in _ = None

-- it waits where it has yielded
pub record HasYielded (W : Memory) (co : CoroId) : Type 0 where
  pub stack : KeptStack
  pub there : slice_get W.coros.objects co.0 ≡ Some (Suspended stack)

-- the main coroutine is resumed, and that ends so, whatever the budget is
pub record Resumes (old new : Memory) (ending : Ending) : Type 0 where
  pub is : (fuel : ℕ) → wakes (plain old fuel) ≡ ends ending (plain new fuel)

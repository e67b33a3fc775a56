-- What is proved of the running stack in memory.
use Rattle.std.specs.Prelude.{◌≡◌, ℕ}
use Rattle.machine_core.specs.World.{put_frames}
use Rattle.table_core.specs.declared.value.CoroId.{CoroId}
use Rattle.lua_stack.specs.Frames.{KeptStack, frames}
use Rattle.lua_heap.specs.declared.world.World.{World as Memory}
use Rattle.lua_heap.specs.Reading.{value}
use Rattle.lua_heap.specs.Plain.{plain}
use Rattle.move_laws.specs.Memory.{Runs, ChangesStack, HasStack}

-- a running coroutine is in memory
pub record RunsIn (W : Memory) : Type 0 where
  pub co : CoroId
  pub stack : KeptStack
  pub runs : Runs W co stack

abbrev pub StackRuns : Type 0
StackRuns = (W : Memory) → HasStack W → RunsIn W

abbrev pub ChangedStackIsPut : Type 0
ChangedStackIsPut = (old new : Memory) (co : CoroId) (s : KeptStack) (fuel : ℕ) → ChangesStack old new co s
    → plain new fuel ≡ put_frames (plain old fuel) co.0 (frames (value old.strings) s)

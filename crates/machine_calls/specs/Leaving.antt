-- Functions that are left in memory.
use Rattle.std.specs.Prelude.{◌≡◌, Some}
use Rattle.machine_core.specs.World.{Place, place_of}
use Rattle.table_core.specs.declared.value.CoroId.{CoroId}
use Rattle.lua_stack.specs.Frames.{KeptStack, NoneFrom}
use Rattle.lua_heap.specs.declared.world.World.{World as Memory}
use Rattle.lua_heap.specs.Plain.{plain}
use Rattle.move_laws.specs.Memory.{Runs}

-- a Lua frame is on top of the running stack, without an open cell
pub record HasClosed (W : Memory) : Type 0 where
  pub place : Place
  pub is : place_of (plain W 0) ≡ Some place
  pub none : (co : CoroId) (s : KeptStack) → Runs W co s → NoneFrom s 0

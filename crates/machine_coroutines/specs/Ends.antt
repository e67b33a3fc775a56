-- What a coroutine leaves that an error ends.
use Rattle.std.specs.Prelude.{List}
use Rattle.table_core.specs.declared.value.CoroId.{CoroId}
use Rattle.table_core.specs.declared.value.Value.{Value as Kept}
use Rattle.lua_stack.specs.Frames.{KeptStack, ArePending}
use Rattle.lua_heap.specs.declared.world.World.{World as Memory}
use Rattle.move_laws.specs.Memory.{Runs}

-- the values of the pending registers of the running coroutine
abbrev pub IsPending : Memory → List Kept → Type 0
IsPending W values = (co : CoroId) (s : KeptStack) → Runs W co s → ArePending s values

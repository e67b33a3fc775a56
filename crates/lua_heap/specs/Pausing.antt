-- A coroutine that ran and waits: in memory, and in the words of the machine's meaning.
use Rattle.std.specs.Prelude.{List}
use Rattle.machine_core.specs.World.{Frame, Coroutine, normal, suspended}
use Rattle.lua_stack.specs.Frames.{KeptStack}
use Rattle.lua_heap.specs.declared.coroutines.Pause.{Pause}
use Rattle.lua_heap.specs.declared.coroutines.Pause.TheVariants.{ForAnother, ToBeResumed}
use Rattle.lua_heap.specs.declared.world.Coro.{Coro}
use Rattle.lua_heap.specs.declared.world.Coro.TheVariants.{Suspended, Normal}

abbrev pub paused : Pause → KeptStack → Coro
paused ForAnother stack = Normal stack
paused ToBeResumed stack = Suspended stack

abbrev pub waiting : Pause → List Frame → Coroutine
waiting ForAnother frames = normal frames
waiting ToBeResumed frames = suspended frames

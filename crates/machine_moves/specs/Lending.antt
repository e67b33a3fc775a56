-- What a world ends as, where the running stack is lent for writing.
use Rattle.std.specs.Prelude.{Option, Some, None, slice_set}
use Rattle.std.specs.Borrow.{Lends, MutBor, Fml}
use Rattle.int_core.specs.Value.{last}
use Rattle.object_pool.specs.Pool.{Pool}
use Rattle.table_core.specs.declared.value.CoroId.{CoroId}
use Rattle.lua_stack.specs.Frames.{KeptStack}
use Rattle.lua_stack.specs.contracts.stack.Stack.{the_row as stack_row}
use Rattle.lua_heap.specs.declared.world.Coro.{Coro}
use Rattle.lua_heap.specs.declared.world.Coro.TheVariants.{Running}
use Rattle.lua_heap.specs.declared.world.World.{World as Memory}
use Rattle.lua_heap.specs.contracts.world.World.{the_row}

-- coroutines, of which the one with this number runs with this stack
abbrev pub running_with : Option CoroId → Pool Coro → KeptStack → Pool Coro
running_with None coros s = coros
running_with (Some co) coros s = record coros { objects = slice_set coros.objects co.0 (Running s) }

-- the running coroutine has this stack
abbrev pub with_running : Memory → KeptStack → Memory
with_running W s = record W { coros = running_with (last W.chain.items) W.coros s }

-- once the loan ends, its stack is the one that was written last
abbrev pub lends_running : MutBor Memory → MutBor KeptStack → Fml
lends_running world stack = Lends the_row stack_row world stack (with_running world.now)

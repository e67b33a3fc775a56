-- What a coroutine ends as, where its stack is lent for writing.
use Rattle.std.specs.Prelude.{◌≡◌}
use Rattle.std.specs.Borrow.{Lends, MutBor, Fml}
use Rattle.lua_stack.specs.Frames.{KeptStack}
use Rattle.lua_stack.specs.contracts.stack.Stack.{the_row as stack_row}
use Rattle.lua_heap.specs.declared.world.Coro.{Coro}
use Rattle.lua_heap.specs.declared.world.Coro.TheVariants.{Running}
use Rattle.lua_heap.specs.contracts.world.Coro.{the_row}

-- a coroutine runs
pub record IsRunning (coro : Coro) : Type 0 where
  pub stack : KeptStack
  pub is : coro ≡ Running stack

-- once the loan ends, it runs with the stack that was written last
abbrev pub lends_stack : MutBor Coro → MutBor KeptStack → Fml
lends_stack coro stack = Lends the_row stack_row coro stack Running

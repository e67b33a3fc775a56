-- Values that come to a Lua frame which waits.
use Rattle.std.specs.Prelude.{◌≡◌, ◌⊎◌, ℕ, length}
use Rattle.table_core.specs.declared.value.CoroId.{CoroId}
use Rattle.lua_stack.specs.declared.frame.LuaState.{LuaState}
use Rattle.lua_stack.specs.Frames.{KeptStack, OnTop, TopBecomes, wait_of, with_opened}
use Rattle.lua_heap.specs.declared.world.World.{World as Memory}
use Rattle.move_laws.specs.Memory.{Runs, ChangesStack}
use Rattle.frame_calls.specs.declared.returning.Given.{Given}
use Rattle.frame_calls.specs.declared.returning.Taker.{Taker}
use Rattle.frame_calls.specs.Opening.{TakesListIn}
use Rattle.frame_calls.specs.Returning.{TakesIn, taken}
use Rattle.frame_calls.specs.Calling.{Program, program_in}

-- what is known of the frame on top
pub record IsWaiting (s : KeptStack) (c : LuaState) : Type 0 where
  pub waits : OnTop s (λ f t. t.wait ≡ wait_of f c.wait)
  pub function : OnTop s (λ f t. t.function ≡ c.function.0)
  pub pc : OnTop s (λ f t. t.own.pc ≡ c.pc)
  pub size : OnTop s (λ f t. length t.own.registers ≡ c.size)

-- it takes what it wants of two values, where it waits for at most two, and runs on
pub record Takes (s u : KeptStack) (program : Program) (g : Given) : Type 0 where
  pub caller : LuaState
  pub waits : IsWaiting s caller
  pub taker : Taker
  pub takes : TakesIn program caller taker
  pub hands : TopBecomes s u (λ f t. taken taker (f g.first) (f g.second) t)

-- it takes all of so many values as an open list, of which these are the first two, and runs on
pub record TakesAll (s u : KeptStack) (program : Program) (g : Given) (count : ℕ) : Type 0 where
  pub caller : LuaState
  pub waits : IsWaiting s caller
  pub taker : Taker
  pub takes : TakesListIn program caller count taker
  pub hands : TopBecomes s u (λ f t. with_opened count (taken taker (f g.first) (f g.second) t))

-- one of these
abbrev pub TakesSo : (s u : KeptStack) → Program → Given → (count : ℕ) → Type 0
TakesSo s u program g count = Takes s u program g ⊎ TakesAll s u program g count

-- and stands on the stack that runs
pub record TakesOnTop (old new : Memory) (g : Given) (count : ℕ) : Type 0 where
  pub co : CoroId
  pub stack : KeptStack
  pub runs : Runs old co stack
  pub after : KeptStack
  pub changes : ChangesStack old new co after
  pub takes : TakesSo stack after (program_in old) g count

-- Coroutines that are resumed.
use Rattle.std.specs.Prelude.{◌≡◌, ℕ, cond, List, Option, Some, None, codes, length, nat_lt, slice_get}
use Rattle.int_core.specs.Limits.{greatest_resumes}
use Rattle.machine_core.specs.World.{Frame, Stack, stack_of}
use Rattle.machine_core.specs.Moves.{go_into, wait_for_another}
use Rattle.table_core.specs.declared.value.CoroId.{CoroId}
use Rattle.table_core.specs.declared.value.Value.{Value as Kept}
use Rattle.lua_stack.specs.Frames.{KeptStack}
use Rattle.lua_heap.specs.declared.world.Coro.{Coro}
use Rattle.lua_heap.specs.declared.world.Coro.TheVariants.{Fresh, Suspended, Running, Normal, Dead, Failed}
use Rattle.lua_heap.specs.declared.world.World.{World as Memory}
use Rattle.lua_heap.specs.Plain.{plain}
use Rattle.lib_coroutine.specs.declared.resuming.Resumption.{Resumption}
use Rattle.lib_coroutine.specs.declared.resuming.Resumption.TheVariants as resumption

-- it has yielded
pub record IsSuspended (W : Memory) (co : CoroId) : Type 0 where
  pub stack : KeptStack
  pub there : slice_get W.coros.objects co.0 ≡ Some (Suspended stack)

-- it has not begun
pub record IsFresh (W : Memory) (co : CoroId) : Type 0 where
  pub body : Kept
  pub there : slice_get W.coros.objects co.0 ≡ Some (Fresh body)

-- the running coroutine waits, and another one runs with these frames
pub record GoesInto (old new : Memory) (co : ℕ) (frames : List Frame) : Type 0 where
  pub is : (fuel : ℕ) (s : Stack) → stack_of (plain old fuel) ≡ Some s → plain new fuel ≡ go_into (wait_for_another (plain old fuel) s) co frames

-- what comes of resuming a coroutine, by how many have resumed each other
abbrev pub resumption_of : Coro → (resumed : ℕ) → Resumption
resumption_of (Fresh body) resumed = cond (nat_lt greatest_resumes resumed) resumption.TooMany (resumption.Begins body)
resumption_of (Suspended stack) resumed = cond (nat_lt greatest_resumes resumed) resumption.TooMany resumption.GoesOn
resumption_of (Running stack) resumed = resumption.NotSuspended
resumption_of (Normal stack) resumed = resumption.NotSuspended
resumption_of Dead resumed = resumption.Dead
resumption_of (Failed error pending) resumed = resumption.Dead

-- why one is not resumed
abbrev pub refusal_of : Resumption → Option (List ℕ)
refusal_of resumption.TooMany = Some (codes "too many nested resumes")
refusal_of resumption.NotSuspended = Some (codes "cannot resume non-suspended coroutine")
refusal_of resumption.Dead = Some (codes "cannot resume dead coroutine")
refusal_of _ = None

pub record IsRefused (W : Memory) (co : CoroId) (text : List ℕ) : Type 0 where
  pub coro : Coro
  pub there : slice_get W.coros.objects co.0 ≡ Some coro
  pub is : refusal_of (resumption_of coro (length W.chain.items)) ≡ Some text

-- The closing of a coroutine begins.
use Rattle.std.specs.Prelude.{◌≡◌, ◌+◌, ◌++◌, ◌∷◌, [], Bool, List, Option, Some, None, codes, cond, length, nat_le}
use Rattle.int_core.specs.Limits.{greatest_depth, stack_overflow}
use Rattle.machine_core.specs.Moves.{is_entered, not_entered, ResumeShape, resumed, refused}
use Rattle.table_core.specs.declared.value.CoroId.{CoroId}
use Rattle.table_core.specs.declared.value.Value.{Value as Kept}
use Rattle.lua_stack.specs.Frames.{KeptStack, ArePending, kept_closing}
use Rattle.lua_heap.specs.declared.world.Coro.{Coro}
use Rattle.lua_heap.specs.declared.world.Coro.TheVariants.{Fresh, Suspended, Running, Normal, Dead, Failed}
use Rattle.lua_heap.specs.declared.world.World.{World as Memory}
use Rattle.move_laws.specs.Memory.{Runs, ChangesStack}
use Rattle.machine_coroutines.specs.declared.beginning.Begun.{Begun}
use Rattle.machine_coroutines.specs.declared.beginning.Begun.TheVariants as begun
use Rattle.machine_coroutines.specs.declared.beginning.Left.{Left}
use Rattle.machine_coroutines.specs.declared.beginning.Left.TheVariants as left

-- what the machine is told
abbrev pub told_of : Begun → ResumeShape
told_of begun.Entered = resumed is_entered
told_of begun.NoRoom = resumed (not_entered stack_overflow)
told_of begun.Running = refused (codes "cannot close a running coroutine")
told_of begun.Normal = refused (codes "cannot close a normal coroutine")

-- what a coroutine that is closed leaves to be closed
abbrev pub Leaves : Coro → Option Kept → List Kept → Type 0
Leaves (Fresh body) error values = (error ≡ None) × (values ≡ [])
Leaves (Suspended stack) error values = (error ≡ None) × ArePending stack values
Leaves (Running stack) error values = ⊥
Leaves (Normal stack) error values = ⊥
Leaves Dead error values = (error ≡ None) × (values ≡ [])
Leaves (Failed e pending) error values = (error ≡ Some e) × (values ≡ pending.items)

abbrev pub IsRunning : Coro → Type 0
IsRunning (Running stack) = Unit {0}
IsRunning _ = ⊥

abbrev pub HasResumed : Coro → Type 0
HasResumed (Normal stack) = Unit {0}
HasResumed _ = ⊥

abbrev pub IsLeft : Coro → Left → Type 0
IsLeft c (left.Values error values) = Leaves c error values.items
IsLeft c left.Running = IsRunning c
IsLeft c left.Normal = HasResumed c

-- a frame of `coroutine.close` is on top of the running stack, where there was room for it
pub record PushesClosing (old new : Memory) (error : Option Kept) (values : List Kept) (room : Bool) : Type 0 where
  pub co : CoroId
  pub before : KeptStack
  pub after : KeptStack
  pub runs : Runs old co before
  pub changes : ChangesStack old new co after
  pub room_is : room ≡ nat_le (length before.frames + 1) greatest_depth
  pub frames : after.frames ≡ cond room (before.frames ++ kept_closing error values ∷ []) before.frames

-- The first arguments of functions.
use Rattle.std.specs.Prelude.{◌≡◌, Bool, true, false, Option, Some, None, map}
use Rattle.int_core.specs.Value.{Value, a_coroutine, nth, object}
use Rattle.table_core.specs.declared.value.CoroId.{CoroId}
use Rattle.table_core.specs.declared.value.Value.{Value as Kept}
use Rattle.table_core.specs.declared.value.Value.TheVariants.{Prim, Func, Coro}
use Rattle.lua_heap.specs.declared.world.World.{World as Memory}
use Rattle.lua_heap.specs.Reading.{value}
use Rattle.move_laws.specs.Memory.{HasStack, IsSound}

abbrev pub coroutine_in : Kept → Option CoroId
coroutine_in (Coro co) = Some co
coroutine_in _ = None

abbrev pub can_be_called : Kept → Bool
can_be_called (Func f) = true
can_be_called (Prim n) = true
can_be_called _ = false

-- the first value that moves, or nil
abbrev pub FirstIs : Memory → Value → Type 0
FirstIs W v = nth (map (value W.strings) W.moving.items) 0 ≡ v

-- a function runs that was called on this coroutine, as its first argument
pub record IsCalledOn (W : Memory) (co : CoroId) : Type 0 where
  pub sound : IsSound W
  pub running : HasStack W
  pub first : FirstIs W (object a_coroutine co.0)

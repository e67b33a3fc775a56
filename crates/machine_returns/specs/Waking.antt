-- Frames that wait, and get what moves.
use Rattle.std.specs.Prelude.{◌≡◌, ℕ, List, Some}
use Rattle.machine_core.specs.World.{Place, place_of, lua, put_top}
use Rattle.machine_core.specs.MachineStep.{woken}
use Rattle.machine_sound.specs.Sound.{Solid}
use Rattle.table_core.specs.declared.value.Value.{Value as Kept}
use Rattle.lua_stack.specs.declared.frame.Wait.{Wait}
use Rattle.lua_stack.specs.Frames.{wait_of}
use Rattle.lua_heap.specs.declared.world.World.{World as Memory}
use Rattle.lua_heap.specs.Plain.{plain}
use Rattle.lua_heap.specs.Reading.{value}
use Rattle.move_laws.specs.Memory.{InOrder}

-- the Lua frame on top waited so; it gets these values, and runs
pub record Wakes (old new : Memory) (wait : Wait) (values : List Kept) : Type 0 where
  pub place : Place
  pub is : place_of (plain old 0) ≡ Some place
  pub waited : wait_of (value old.strings) wait ≡ place.top.wait
  pub came : values ≡ old.moving.items
  pub woken_is : (fuel : ℕ) → plain new fuel ≡ woken (plain old fuel) place.stack place.top
  pub rest : new ≡ record old { coros = new.coros; moving = new.moving }

-- the Lua frame on top waits so, or runs
pub record WaitsSo (old new : Memory) (wait : Wait) : Type 0 where
  pub waits : (place : Place) → place_of (plain old 0) ≡ Some place → (fuel : ℕ) → plain new fuel ≡ put_top (plain old fuel) place.stack (lua (record place.top { wait = wait_of (value old.strings) wait }))

-- that of the Lua frame on top
pub record HasWait (W : Memory) (wait : Wait) : Type 0 where
  pub is : (place : Place) → place_of (plain W 0) ≡ Some place → wait_of (value W.strings) wait ≡ place.top.wait

-- all that a world in memory stands for is valid, whether the frame on top fits its place or not
pub record IsSolid (W : Memory) : Type 0 where
  pub primitives : ℕ
  pub solid : Solid primitives (plain W 0)
  pub order : InOrder W

-- Calls of Lua functions whose arguments stand in registers.
use Rattle.std.specs.Prelude.{◌≡◌, ◌+◌, ◌≤◌, ℕ, suc, List, Some, length, map}
use Rattle.int_core.specs.Value.{a_function, object, range}
use Rattle.machine_core.specs.World.{Place, place_of}
use Rattle.machine_core.specs.Moves.{go}
use Rattle.table_core.specs.declared.value.FuncId.{FuncId}
use Rattle.table_core.specs.declared.value.Value.{Value as Kept}
use Rattle.table_core.specs.declared.value.Value.TheVariants.{Func}
use Rattle.lua_stack.specs.declared.frame.Wait.{Wait as KeptWait}
use Rattle.lua_heap.specs.declared.world.World.{World as Memory}
use Rattle.lua_heap.specs.Plain.{plain}
use Rattle.lua_heap.specs.Reading.{value}
use Rattle.machine_calls.specs.declared.preparing.Prepared.TheVariants.{GivenUp}
use Rattle.machine_calls.specs.Waiting.{CallsSo, EntersOver}

-- the Lua frame on top has a register and so many behind it
pub record HasGiven (W : Memory) (register given : ℕ) : Type 0 where
  pub place : Place
  pub is : place_of (plain W 0) ≡ Some place
  pub there : register + 1 + given ≤ length place.top.own.registers

-- and these values stand behind it
pub record AreGiven (W : Memory) (register given : ℕ) (arguments : List Kept) : Type 0 where
  pub are : (at : Place) → place_of (plain W 0) ≡ Some at → range (suc register) given at.top.own.registers ≡ map (value W.strings) arguments

-- a function is called with them for a unit of the budget, and the frame waits
pub record CallsGiven (old new : Memory) (fuel left : ℕ) (function : FuncId) (register given : ℕ) (wait : KeptWait) : Type 0 where
  pub calls : (arguments : List Kept) → AreGiven old register given arguments → CallsSo old new fuel left (Func function) arguments wait (GivenUp register) go

-- it is entered with them, once that is paid
pub record EntersGiven (old new : Memory) (function : FuncId) (register given : ℕ) (wait : KeptWait) : Type 0 where
  pub enters : (at : Place) → place_of (plain old 0) ≡ Some at → EntersOver old new wait (GivenUp register) (object a_function function.0) (range (suc register) given at.top.own.registers) go

-- The code of the Lua frame on top.
use Rattle.std.specs.Prelude.{◌≡◌, ℕ, Some, IsSome, slice_get}
use Rattle.code_core.specs.Check.{IsChecked}
use Rattle.machine_core.specs.World.{Place, place_of}
use Rattle.table_core.specs.declared.value.CellId.{CellId}
use Rattle.lua_heap.specs.declared.codes.Code.{Code}
use Rattle.lua_heap.specs.declared.world.Func.{Func}
use Rattle.lua_heap.specs.declared.world.World.{World as Memory}
use Rattle.lua_heap.specs.Codes.{functions, IsCode}
use Rattle.lua_heap.specs.Changes.{value_in}
use Rattle.lua_heap.specs.Plain.{function, plain}

-- a Lua function is on top
pub record HasFunctionOnTop (W : Memory) : Type 0 where
  pub place : Place
  pub is : place_of (plain W 0) ≡ Some place

-- and this is what is kept of it
pub record IsFunctionOnTop (W : Memory) (f : Func) : Type 0 where
  pub same : (place : Place) → place_of (plain W 0) ≡ Some place → function (functions W.codes) f ≡ place.function

-- its code is checked, as all code of a sound world
pub record HasCode (W : Memory) : Type 0 where
  pub place : Place
  pub is : place_of (plain W 0) ≡ Some place
  pub checked : IsChecked place.function.code

pub record IsCodeOnTop (W : Memory) (code : Code) : Type 0 where
  pub place : Place
  pub is : place_of (plain W 0) ≡ Some place
  pub number : ℕ
  pub says : IsCode W.strings number place.function.code code

-- the function on top has a cell for the upvalue of that number
pub record HasUpvalueCell (W : Memory) (upvalue : ℕ) : Type 0 where
  pub place : Place
  pub is : place_of (plain W 0) ≡ Some place
  pub cell : ℕ
  pub there : slice_get place.function.cells upvalue ≡ Some cell

-- and one that is there
pub record HasUpvalue (W : Memory) (upvalue : ℕ) : Type 0 where
  pub place : Place
  pub is : place_of (plain W 0) ≡ Some place
  pub cell : ℕ
  pub there : slice_get place.function.cells upvalue ≡ Some cell
  pub value : IsSome (value_in (plain W 0) cell)

-- and that is its cell
pub record IsUpvalue (W : Memory) (upvalue : ℕ) (cell : CellId) : Type 0 where
  pub place : Place
  pub is : place_of (plain W 0) ≡ Some place
  pub there : slice_get place.function.cells upvalue ≡ Some cell.0

-- Functions that are entered in memory.
use Rattle.std.specs.Prelude.{◌≡◌, ◌≤◌, ℕ, Bool, true, false, List, [], Some, slice_get}
use Rattle.code_core.specs.Check.{IsChecked}
use Rattle.int_core.specs.Limits.{stack_overflow}
use Rattle.int_core.specs.Value.{Value}
use Rattle.machine_core.specs.World.{Function}
use Rattle.machine_core.specs.Moves.{CallShape, is_entered, not_entered, enters, made}
use Rattle.lua_stack.specs.declared.frame.Shape.{Shape}
use Rattle.lua_stack.specs.Frames.{IsShapeOf}
use Rattle.lua_heap.specs.declared.world.World.{World as Memory}
use Rattle.lua_heap.specs.Plain.{plain}

-- a function is there, of checked code, as all code of a sound world
pub record HasFunction (W : Memory) (n : ℕ) : Type 0 where
  pub function : Function
  pub is : slice_get (plain W 0).functions n ≡ Some function
  pub checked : IsChecked function.code

-- and what is told of its code is so
pub record HasShape (W : Memory) (n : ℕ) (shape : Shape) : Type 0 where
  pub function : Function
  pub is : slice_get (plain W 0).functions n ≡ Some function
  pub shape_is : IsShapeOf function.code shape
  pub params : shape.params ≤ shape.stack

-- what the machine is told, by whether there was room
abbrev pub entered_or_not : Bool → CallShape
entered_or_not true = is_entered
entered_or_not false = not_entered stack_overflow

-- a value is entered so with these arguments, whatever the budget is
pub record EntersSo (old new : Memory) (f : Value) (arguments : List Value) (told : CallShape) : Type 0 where
  pub is : (fuel : ℕ) → enters (plain old fuel) f arguments ≡ made (plain new fuel) [] told

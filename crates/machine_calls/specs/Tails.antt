-- Calls in place of a Lua frame, in the words of rows.
use Rattle.std.specs.Prelude.{◌≡◌, ℕ, List, Some, drop, map}
use Rattle.int_core.specs.Value.{Value}
use Rattle.machine_core.specs.World.{World, Place, place_of}
use Rattle.machine_core.specs.Text.{Arg, arg}
use Rattle.machine_core.specs.Moves.{enter_tail, enters, popped, Ending, Row, act, ends}
use Rattle.machine_core.specs.FrameRows.{after_call}
use Rattle.machine_core.specs.MachineStep.{from_world}
use Rattle.table_core.specs.declared.value.Value.{Value as Kept}
use Rattle.lua_heap.specs.declared.world.World.{World as Memory}
use Rattle.lua_heap.specs.Plain.{plain}
use Rattle.lua_heap.specs.Reading.{value}
use Rattle.move_laws.specs.Memory.{IsSafe, Steps}
use Rattle.machine_calls.specs.Waiting.{follows}

abbrev pub tail_row : Arg → ℕ → Row
tail_row f slot = act (enter_tail f slot) (λ _ s. after_call s)

-- what a row names: the value that is called, and its arguments
pub record IsNamedTail (W : Memory) (env : List Value) (f : Arg) (slot : ℕ) (called : Kept) (arguments : List Kept) : Type 0 where
  pub calls : arg env f ≡ value W.strings called
  pub gives : drop slot env ≡ map (value W.strings) arguments

-- the row of such a call, by some names, does not trap
pub record MayCallInPlace (W : Memory) (called : Kept) (arguments : List Kept) : Type 0 where
  pub env : List Value
  pub f : Arg
  pub slot : ℕ
  pub names : IsNamedTail W env f slot called arguments
  pub safe : IsSafe (tail_row f slot) env W

-- the value is called in place of the frame for a unit of the budget, by whatever names
pub record CallsInPlace (old new : Memory) (fuel left : ℕ) (called : Kept) (arguments : List Kept) (ending : Ending) : Type 0 where
  pub steps : (env : List Value) (f : Arg) (slot : ℕ) → IsNamedTail old env f slot called arguments → Steps (tail_row f slot) env old fuel new left ending

-- the parts of this

-- the frame is taken away, and its cells are closed
pub record Drops (old new : Memory) : Type 0 where
  pub is : (at : Place) → place_of (plain old 0) ≡ Some at → (fuel : ℕ) → popped (plain old fuel) at ≡ plain new fuel

-- a function is entered where the frame was, once that is paid
pub record EntersInPlace (old new : Memory) (f : Value) (arguments : List Value) (ending : Ending) : Type 0 where
  pub is : (at : Place) → place_of (plain old 0) ≡ Some at → (fuel : ℕ) (all : List Value) (W : World)
      → from_world W (follows all (enters (popped (plain old fuel) at) f arguments)) ≡ ends ending (plain new fuel)

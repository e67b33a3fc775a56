-- Values that are called in memory.
use Rattle.std.specs.Prelude.{◌≡◌, ℕ, true, List}
use Rattle.int_core.specs.Limits.{stack_overflow}
use Rattle.int_core.specs.Operations.{callee, callee_of, greatest_chain, is_function}
use Rattle.int_core.specs.Value.{Value, object, a_function}
use Rattle.machine_core.specs.Moves.{CallShape, is_entered, is_primitive, not_paid, not_entered}
use Rattle.lua_heap.specs.declared.world.World.{World as Memory}
use Rattle.lua_heap.specs.Plain.{plain}
use Rattle.meta_ops.specs.Outcome.{fault_text}
use Rattle.machine_calls.specs.declared.calling.Called.{Called}
use Rattle.machine_calls.specs.declared.calling.Called.TheVariants.{Function, Primitive, NotPaid, Fault, NoRoom}
use Rattle.machine_calls.specs.Entering.{HasFunction}

-- a primitive, or a Lua function that is there
pub record CanEnter (W : Memory) (f : Value) : Type 0 where
  pub is : is_function f ≡ true
  pub there : (n : ℕ) → f ≡ object a_function n → HasFunction W n

-- a Lua function to which the handlers of a value lead is there
pub record CanCall (W : Memory) (f : Value) : Type 0 where
  pub there : (n : ℕ) (arguments more : List Value) → callee_of greatest_chain (plain W 0).heap f arguments ≡ callee (object a_function n) more → HasFunction W n

-- what the machine is told of a call
abbrev pub told_of : List (List ℕ) → Called → CallShape
told_of texts Function = is_entered
told_of texts (Primitive n) = is_primitive n
told_of texts NotPaid = not_paid
told_of texts (Fault cause) = not_entered (fault_text texts cause)
told_of texts NoRoom = not_entered stack_overflow

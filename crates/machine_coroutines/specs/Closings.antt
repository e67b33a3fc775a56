-- What is left to be closed under a frame of `coroutine.close`.
use Rattle.std.specs.Prelude.{◌≡◌, List, [], ◌∷◌, Option, Some, None, map}
use Rattle.int_core.specs.Value.{Value}
use Rattle.machine_core.specs.FrameRows.{hand_over}
use Rattle.machine_core.specs.Moves.{ClosingShape, one_left, all_closed, closed_with_error, Ending, give, pop_frame}
use Rattle.machine_core.specs.Text.{Arg, args_of}
use Rattle.table_core.specs.declared.value.Value.{Value as Kept}
use Rattle.table_core.specs.declared.value.Value.TheVariants.{Nil}
use Rattle.lua_heap.specs.declared.world.World.{World as Memory}
use Rattle.lua_heap.specs.Reading.{value}
use Rattle.move_laws.specs.Memory.{Leads, Makes}
use Rattle.machine_coroutines.specs.declared.closing.Closing.{Closing}
use Rattle.machine_coroutines.specs.declared.closing.Closing.TheVariants.{One, All, Failed}

abbrev pub error_or : Option Kept → Kept
error_or None = Nil
error_or (Some e) = e

abbrev pub at_end : Option Kept → Closing
at_end None = All
at_end (Some e) = Failed e

-- by the error that there is, and the last value that is left
abbrev pub closing_of : (error last : Option Kept) → Closing
closing_of error (Some v) = One v (error_or error)
closing_of error None = at_end error

-- what is read, and what the machine is told

abbrev pub values_of : (Kept → Value) → Closing → List Value
values_of value (One v e) = value v ∷ value e ∷ []
values_of value All = []
values_of value (Failed e) = value e ∷ []

abbrev pub shape_of : Closing → ClosingShape
shape_of (One v e) = one_left
shape_of All = all_closed
shape_of (Failed e) = closed_with_error

-- the frame on top is left with an answer, which is for the frame below
pub record LeavesWith (old new : Memory) (answer : List Kept) (ending : Ending) : Type 0 where
  pub left : Memory
  pub leaves : (env : List Value) → Makes old left pop_frame env [] tt
  pub gives : (env : List Value) (xs : List Arg) → args_of env xs ≡ map (value old.strings) answer → Makes left new (give xs) env [] tt
  pub hands : (env : List Value) → Leads hand_over env new new ending

-- Calls over a Lua frame that waits, in the words of rows.
use Rattle.std.specs.Prelude.{◌≡◌, ℕ, Bool, not, List, ◌++◌, Option, Some, None, drop, map}
use Rattle.int_core.specs.Value.{Value}
use Rattle.machine_core.specs.World.{Wait, World, Place, place_of}
use Rattle.machine_core.specs.Text.{Arg, arg}
use Rattle.machine_core.specs.Moves.{Made, CallShape, enters, has_room, with_own, Ending, raised, named, Outcome, trapped, ends, run}
use Rattle.machine_core.specs.FrameRows.{after_call, ask_row, call_row, raises}
use Rattle.machine_core.specs.MachineStep.{from_world}
use Rattle.table_core.specs.declared.value.Value.{Value as Kept}
use Rattle.lua_stack.specs.declared.frame.Wait.{Wait as KeptWait}
use Rattle.lua_stack.specs.declared.frame.Wait.TheVariants.{Running, ForCall, ForIterator, ForValue, ForTruth, Dropped, ForConcat, ForClose, Returning, Leaving}
use Rattle.lua_stack.specs.Frames.{wait_of}
use Rattle.lua_heap.specs.Errors.{HasText}
use Rattle.lua_heap.specs.Plain.{plain}
use Rattle.lua_heap.specs.declared.world.World.{World as Memory}
use Rattle.lua_heap.specs.Reading.{value}
use Rattle.move_laws.specs.Memory.{IsSafe, Leads, Steps}
use Rattle.machine_calls.specs.declared.preparing.Prepared.{Prepared}
use Rattle.machine_calls.specs.declared.preparing.Prepared.TheVariants.{Nothing, Copied, GivenUp, LeftSo, ReturnedSo, Closed}
use Rattle.machine_calls.specs.Preparing.{IsCopy, prepared_of}

-- what a row names: the value that is called, its arguments, the wait, and a value that is copied
pub record IsNamed (W : Memory) (env : List Value) (f : Arg) (slot : ℕ) (w : Wait Arg) (x : Arg) (called : Kept) (arguments : List Kept) (wait : KeptWait) (prepared : Prepared) : Type 0 where
  pub calls : arg env f ≡ value W.strings called
  pub gives : drop slot env ≡ map (value W.strings) arguments
  pub waits : named env w ≡ wait_of (value W.strings) wait
  pub copies : IsCopy (value W.strings) env x prepared

-- the frame waits, and asks for the call, by whatever names
pub record AsksSo (old new : Memory) (called : Kept) (arguments : List Kept) (wait : KeptWait) (prepared : Prepared) (ending : Ending) : Type 0 where
  pub leads : (env : List Value) (f : Arg) (slot : ℕ) (w : Wait Arg) (x : Arg) → IsNamed old env f slot w x called arguments wait prepared
      → Leads (ask_row f slot w (prepared_of x prepared)) env old new ending

-- strings that are named are there
abbrev pub IsHeldWait : List (List ℕ) → KeptWait → Type 0
IsHeldWait texts Running = Unit {0}
IsHeldWait texts ForCall = Unit {0}
IsHeldWait texts ForIterator = Unit {0}
IsHeldWait texts ForValue = Unit {0}
IsHeldWait texts ForTruth = Unit {0}
IsHeldWait texts Dropped = Unit {0}
IsHeldWait texts (ForConcat left) = Unit {0}
IsHeldWait texts ForClose = Unit {0}
IsHeldWait texts (Returning count) = Unit {0}
IsHeldWait texts (Leaving error) = HasText texts error

abbrev pub IsHeld : List (List ℕ) → Prepared → Type 0
IsHeld texts Nothing = Unit {0}
IsHeld texts (Copied register v) = HasText texts v
IsHeld texts (GivenUp register) = Unit {0}
IsHeld texts LeftSo = Unit {0}
IsHeld texts (ReturnedSo from count) = Unit {0}
IsHeld texts (Closed register) = Unit {0}

-- the row of a call, by some names, does not trap
pub record MayCall (W : Memory) (called : Kept) (arguments : List Kept) (wait : KeptWait) (prepared : Prepared) : Type 0 where
  pub env : List Value
  pub f : Arg
  pub slot : ℕ
  pub w : Wait Arg
  pub x : Arg
  pub names : IsNamed W env f slot w x called arguments wait prepared
  pub safe : IsSafe (call_row f slot w (prepared_of x prepared)) env W
  pub held_wait : IsHeldWait W.strings wait
  pub held : IsHeld W.strings prepared

-- the value is called for a unit of the budget, and the frame waits, by whatever names
pub record CallsSo (old new : Memory) (fuel left : ℕ) (called : Kept) (arguments : List Kept) (wait : KeptWait) (prepared : Prepared) (ending : Ending) : Type 0 where
  pub steps : (env : List Value) (f : Arg) (slot : ℕ) (w : Wait Arg) (x : Arg) → IsNamed old env f slot w x called arguments wait prepared
      → Steps (call_row f slot w (prepared_of x prepared)) env old fuel new left ending

-- the parts of this

abbrev pub made_ready : Memory → (fuel : ℕ) → Place → KeptWait → Prepared → List Value → Arg → World
made_ready W fuel at wait prepared env x = with_own (plain W fuel) at (wait_of (value W.strings) wait) (prepared_of x prepared) env

-- an error of the frame that has made itself ready
pub record RaisesOver (old new : Memory) (wait : KeptWait) (prepared : Prepared) (text : List ℕ) : Type 0 where
  pub is : (at : Place) → place_of (plain old 0) ≡ Some at → (env : List Value) (x : Arg) → IsCopy (value old.strings) env x prepared → (fuel : ℕ) (all : List Value)
      → run (raises text) all (made_ready old fuel at wait prepared env x) ≡ ends raised (plain new fuel)

-- what follows a call
abbrev pub follows : List Value → Option (Made CallShape) → Outcome
follows env o = elim o [ None ↦ trapped | Some d ↦ run (after_call d.told) (env ++ d.values) d.world ]

-- a function is entered over the frame that has made itself ready, once that is paid
pub record EntersOver (old new : Memory) (wait : KeptWait) (prepared : Prepared) (f : Value) (arguments : List Value) (ending : Ending) : Type 0 where
  pub is : (at : Place) → place_of (plain old 0) ≡ Some at → (env : List Value) (x : Arg) → IsCopy (value old.strings) env x prepared → (fuel : ℕ) (all : List Value) (W : World)
      → from_world W (follows all (enters (made_ready old fuel at wait prepared env x) f arguments)) ≡ ends ending (plain new fuel)

-- whether a stack has as many frames as it may have
pub record IsFull (W : Memory) (full : Bool) : Type 0 where
  pub is : has_room (plain W 0) 1 ≡ not full

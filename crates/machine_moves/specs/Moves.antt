-- What is told of the running stack, and moves of the frame on top to another place of its code.
use Rattle.std.specs.Prelude.{◌≡◌, ℕ, ℤ, ◌≤◌, ◌<◌, ◌∷◌, Option, None, Bool, true, nat_lt, List, [], Some, IsSome, length, max}
use Rattle.code_core.specs.declared.instruction.Instruction.{Instruction}
use Rattle.code_core.specs.Check.{at, in_front}
use Rattle.int_core.specs.Limits.{greatest_depth}
use Rattle.int_core.specs.Value.{Value, is_known, nil}
use Rattle.machine_core.specs.World.{Place, place_of}
use Rattle.machine_core.specs.Text.{Own, behind, last_pending, pay}
use Rattle.machine_core.specs.Moves.{move, made, on_own, outside, move_pc, place_from}
use Rattle.table_core.specs.declared.value.CoroId.{CoroId}
use Rattle.table_core.specs.declared.value.Value.{Value as Kept}
use Rattle.lua_stack.specs.Frames.{KeptStack, NoneFrom}
use Rattle.lua_heap.specs.declared.world.World.{World as Memory}
use Rattle.lua_heap.specs.Plain.{plain}
use Rattle.move_laws.specs.Memory.{HasFrame, Runs, Makes, StaysOnTop}

pub record RunsAs (W : Memory) (co : CoroId) : Type 0 where
  pub stack : KeptStack
  pub runs : Runs W co stack

pub record RunsOn (W : Memory) (stack : KeptStack) : Type 0 where
  pub co : CoroId
  pub runs : Runs W co stack

-- a place of the code of the Lua frame on top
pub record CanGo (W : Memory) (pc : ℕ) : Type 0 where
  pub place : Place
  pub is : place_of (plain W 0) ≡ Some place
  pub there : IsSome (at place.function.code pc)

-- the frame on top goes on there, however far that is
pub record Goes (old new : Memory) (pc : ℕ) : Type 0 where
  pub makes : (place : Place) → place_of (plain old 0) ≡ Some place → (z : ℤ) → place_from place.top.own.pc z ≡ Some pc → (env : List Value) → Makes old new (move_pc z) env [] tt

-- the frame on top does a move of its own that reads nothing, and stays where it stands
pub record DoesOwn (old new : Memory) (m : Own) : Type 0 where
  pub makes : (env : List Value) → Makes old new (on_own m) env [] (is_known nil)
  pub stays : StaysOnTop old new

-- a unit is paid from what is left of the budget, in whatever world
abbrev pub Pays : (old new : ℕ) (paid : Bool) → Type 0
Pays old new paid = (W : Memory) (env : List Value) → HasFrame W → move (outside pay) env (plain W old) ≡ made (plain W new) [] paid

-- the function on top has no open cell at a register or above
abbrev pub NoneIsOpenFrom : Memory → ℕ → Type 0
NoneIsOpenFrom W register = (co : CoroId) (stack : KeptStack) → Runs W co stack → NoneFrom stack register

-- the function on top has a register, and the frames are no more than there may be
pub record CanOpen (W : Memory) (register : ℕ) : Type 0 where
  pub place : Place
  pub is : place_of (plain W 0) ≡ Some place
  pub there : nat_lt register (length place.top.own.registers) ≡ true
  pub depth : length place.stack.frames ≤ greatest_depth

-- the function on top has at least the registers of its code, of which there are so many, and no open cell beyond
pub record CanCut (W : Memory) (stack : ℕ) : Type 0 where
  pub place : Place
  pub is : place_of (plain W 0) ≡ Some place
  pub size : stack ≡ place.function.code.own.stack
  pub room : stack ≤ length place.top.own.registers
  pub closed : NoneIsOpenFrom W stack

-- and the registers of results, and no open cell beyond both
pub record CanKeep (W : Memory) (from count stack : ℕ) : Type 0 where
  pub place : Place
  pub is : place_of (plain W 0) ≡ Some place
  pub size : stack ≡ place.function.code.own.stack
  pub room : max stack (behind from count) ≤ length place.top.own.registers
  pub closed : NoneIsOpenFrom W (max stack (behind from count))

-- the word stands in front of the place at which the frame on top is
pub record IsInFront (W : Memory) (word : Instruction) : Type 0 where
  pub place : Place
  pub is : place_of (plain W 0) ≡ Some place
  pub there : in_front place.function.code place.top.own.pc ≡ Some word

-- the last pending register from one on, if there is one, is one of the function on top
pub record CanSee (W : Memory) (register : ℕ) : Type 0 where
  pub place : Place
  pub is : place_of (plain W 0) ≡ Some place
  pub there : (r : ℕ) → last_pending register place.top.own.pending ≡ Some r → r < length place.top.own.registers

abbrev pub value_seen : (Kept → Value) → Option Kept → List Value
value_seen value None = []
value_seen value (Some v) = value v ∷ []

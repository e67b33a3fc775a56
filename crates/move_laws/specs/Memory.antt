-- The running stack of a world in memory, what is changed of it, and moves of the machine between worlds in memory.
use Rattle.std.specs.Prelude.{◌≡◌, ◌+◌, ◌<◌, ◌^◌, ℕ, true, List, Some, slice_get, slice_set}
use Rattle.int_core.specs.Value.{Value, last}
use Rattle.machine_core.specs.World.{Stack, stack_of, Place, place_of}
use Rattle.machine_core.specs.Text.{Own, fits}
use Rattle.machine_core.specs.Moves.{Move, Told, made, move, Ending, Row, trapped, ends, run}
use Rattle.machine_core.specs.MachineStep.{from_world}
use Rattle.machine_sound.specs.Sound.{Sound}
use Rattle.table_core.specs.declared.value.CoroId.{CoroId}
use Rattle.lua_stack.specs.Frames.{KeptStack}
use Rattle.lua_heap.specs.declared.world.Coro.TheVariants.{Running}
use Rattle.lua_heap.specs.declared.world.World.{World as Memory}
use Rattle.lua_heap.specs.Cells.{CellsAreListed}
use Rattle.lua_heap.specs.Codes.{AreCodes}
use Rattle.lua_heap.specs.Plain.{plain}

-- the coroutine that runs, and its stack
pub record Runs (W : Memory) (co : CoroId) (s : KeptStack) : Type 0 where
  pub chain : last W.chain.items ≡ Some co
  pub there : slice_get W.coros.objects co.0 ≡ Some (Running s)

-- that stack is changed, and nothing else
pub record ChangesStack (old new : Memory) (co : CoroId) (s : KeptStack) : Type 0 where
  pub rest : new ≡ record old { coros = new.coros }
  pub objects : new.coros.objects ≡ slice_set old.coros.objects co.0 (Running s)

-- a coroutine runs
pub record HasStack (W : Memory) : Type 0 where
  pub stack : Stack
  pub is : stack_of (plain W 0) ≡ Some stack

-- a Lua frame is on top of its stack
pub record HasFrame (W : Memory) : Type 0 where
  pub place : Place
  pub is : place_of (plain W 0) ≡ Some place

-- and a move on this frame names what is there
pub record CanDo (W : Memory) (m : Own) : Type 0 where
  pub place : Place
  pub is : place_of (plain W 0) ≡ Some place
  pub fits : fits m place.function.code place.top.own ≡ true

-- a move leads from one world to another, whatever the budget is
pub record Makes (old new : Memory) (m : Move) (env values : List Value) (told : Told m) : Type 0 where
  pub is : (fuel : ℕ) → move m env (plain old fuel) ≡ made (plain new fuel) values told

-- a row leads from one world to another and ends so, whatever the budget is
pub record Leads (row : Row) (env : List Value) (old new : Memory) (ending : Ending) : Type 0 where
  pub is : (fuel : ℕ) → run row env (plain old fuel) ≡ ends ending (plain new fuel)

-- a row that names what is there
pub record IsSafe (row : Row) (env : List Value) (W : Memory) : Type 0 where
  pub never : (fuel : ℕ) → run row env (plain W fuel) ≡ trapped → ⊥

-- the Lua frame on top is at a place of its code
pub record StandsAt (W : Memory) (pc : ℕ) : Type 0 where
  pub place : Place
  pub is : place_of (plain W 0) ≡ Some place
  pub at : place.top.own.pc ≡ pc

-- what coroutines hold has changed and nothing else: the frame on top is at its place still, and cells are listed as they were
pub record StaysOnTop (old new : Memory) : Type 0 where
  pub at : (pc : ℕ) → StandsAt old pc → StandsAt new pc
  pub listed : CellsAreListed old → CellsAreListed new
  pub rest : new ≡ record old { coros = new.coros }

-- what is kept of code, and what stacks list as open, are as the calls of a world in memory make them
pub record InOrder (W : Memory) : Type 0 where
  pub codes : AreCodes W.strings W.codes
  pub listed : CellsAreListed W

-- and all that it stands for is valid
pub record IsSound (W : Memory) : Type 0 where
  pub primitives : ℕ
  pub sound : Sound primitives (plain W 0)
  pub order : InOrder W

-- a sound world whose frame on top is at this place, and may go on by so many
pub record StandsSound (W : Memory) (pc ahead : ℕ) : Type 0 where
  pub sound : IsSound W
  pub at : StandsAt W pc
  pub room : pc + ahead < 2 ^ 64

-- the step of a row leads from one world and budget to others, and ends so; one that could not be paid changes nothing
pub record Steps (row : Row) (env : List Value) (old : Memory) (fuel : ℕ) (new : Memory) (left : ℕ) (ending : Ending) : Type 0 where
  pub is : from_world (plain old fuel) (run row env (plain old fuel)) ≡ ends ending (plain new left)

-- two worlds in memory stand for the same
pub record ReadsSame (old new : Memory) : Type 0 where
  pub is : (fuel : ℕ) → plain new fuel ≡ plain old fuel

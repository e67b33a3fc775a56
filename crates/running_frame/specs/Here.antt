-- Where the Lua frame on top of a world in memory is in its code, and whether it runs there.
use Rattle.std.specs.Prelude.{◌≡◌, ◌<◌, ◌^◌, ℕ, Some, Bool, true, false}
use Rattle.code_core.specs.declared.instruction.Instruction.{Instruction}
use Rattle.code_core.specs.Check.{IsChecked, at}
use Rattle.machine_core.specs.World.{Wait, running, Place, place_of}
use Rattle.lua_heap.specs.declared.world.World.{World as Memory}
use Rattle.lua_heap.specs.Plain.{plain}
use Rattle.running_frame.specs.declared.place.Here.{Here}

-- it is at this place of its code, and there is this word
pub record IsAtWord (W : Memory) (pc : ℕ) (word : Instruction) : Type 0 where
  pub place : Place
  pub is : place_of (plain W 0) ≡ Some place
  pub at_pc : place.top.own.pc ≡ pc
  pub there : at place.function.code pc ≡ Some word
  pub near : pc < 2 ^ 63

-- there is a word at this place of its checked code
pub record HasWord (W : Memory) (pc : ℕ) : Type 0 where
  pub place : Place
  pub is : place_of (plain W 0) ≡ Some place
  pub checked : IsChecked place.function.code
  pub at_pc : place.top.own.pc ≡ pc
  pub word : Instruction
  pub there : at place.function.code pc ≡ Some word

-- whether a wait is none

abbrev pub is_none : {V : Type 0} → Wait V → Bool
is_none running = true
is_none _ = false

pub record RunsIf (W : Memory) (runs : Bool) : Type 0 where
  pub is : (place : Place) → place_of (plain W 0) ≡ Some place → runs ≡ is_none place.top.wait

-- all of this
pub record IsHere (W : Memory) (here : Here) : Type 0 where
  pub word : IsAtWord W here.pc here.word
  pub wait : RunsIf W here.runs

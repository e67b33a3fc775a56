-- Turns of a world in memory.
use Rattle.std.specs.Prelude.{◌≡◌, ℕ, false, length}
use Rattle.library_rows.specs.Library.{all_entries}
use Rattle.machine_core.specs.Moves.{Ending, Row, ends}
use Rattle.machine_core.specs.MachineStep.{steps}
use Rattle.machine_runs.specs.Runs.{is_end, turn}
use Rattle.lua_heap.specs.declared.world.World.{World as Memory}
use Rattle.lua_heap.specs.Plain.{plain}
use Rattle.step_laws.specs.Steps.{Does, IsReady}

-- some steps lead from one world and budget to others, and end so
pub record Reaches (rows : ℕ → Row) (from : Ending) (old : Memory) (fuel : ℕ) (new : Memory) (left : ℕ) (to : Ending) : Type 0 where
  pub count : ℕ
  pub is : steps rows count from (plain old fuel) ≡ ends to (plain new left)

-- some steps, of which none ends the turn where the one before did not, and one more
pub record GoesFurther (rows : ℕ → Row) (from : Ending) (old : Memory) (fuel : ℕ) (new : Memory) (left : ℕ) (to : Ending) : Type 0 where
  pub mid : Memory
  pub rest : ℕ
  pub at : Ending
  pub goes_on : is_end from ≡ false → is_end at ≡ false
  pub reaches : Reaches rows from old fuel mid rest at
  pub ready : IsReady (length all_entries) at mid
  pub does : Does rows at mid rest new left to

-- a turn ends so
pub record Turns (rows : ℕ → Row) (old new : Memory) (budget : ℕ) (ending : Ending) : Type 0 where
  pub count : ℕ
  pub left : ℕ
  pub is : turn rows count (plain old 0) budget ≡ ends ending (plain new left)

-- What rows of loops suppose, and what they read.
use Rattle.std.specs.Prelude.{◌≡◌, ℕ, ℤ, List, [], Option}
use Rattle.int_core.specs.Value.{Value}
use Rattle.machine_core.specs.Text.{Text}
use Rattle.machine_core.specs.InstructionRows.{back, with_loop}
use Rattle.machine_core.specs.FrameRows.{expand}
use Rattle.machine_core.specs.Moves.{run}
use Rattle.lua_heap.specs.declared.world.World.{World as Memory}
use Rattle.lua_heap.specs.Plain.{plain}
use Rattle.move_laws.specs.Memory.{IsSafe}

-- what is left of a row is safe
pub record MayDo (W : Memory) (text : Text) : Type 0 where
  pub env : List Value
  pub safe : IsSafe (expand text) env W

-- a row that goes back so far is safe
pub record MayGoBack (W : Memory) (by : ℕ) : Type 0 where
  pub env : List Value
  pub safe : IsSafe (expand (back by)) env W

-- so is one that begins with the registers of a loop
pub record MayRead (W : Memory) (base : ℕ) : Type 0 where
  pub more : Option ℤ → Option ℤ → Option ℤ → Text
  pub safe : IsSafe (expand (with_loop base more)) [] W

-- it goes on with these integers, where the registers hold such
pub record ReadsLoop (W : Memory) (base : ℕ) (first second third : Option ℤ) : Type 0 where
  pub values : List Value
  pub goes : (more : Option ℤ → Option ℤ → Option ℤ → Text) (fuel : ℕ) → run (expand (with_loop base more)) [] (plain W fuel) ≡ run (expand (more first second third)) values (plain W fuel)

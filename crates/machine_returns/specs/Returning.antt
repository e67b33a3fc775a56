-- Rows that return values, and do not trap.
use Rattle.std.specs.Prelude.{◌≡◌, ◌-◌, ◌==◌, ℕ, cond, List, ◌++◌, length}
use Rattle.int_core.specs.Value.{Value, Shape}
use Rattle.machine_core.specs.Text.{Text, read_registers}
use Rattle.machine_core.specs.InstructionRows.{counted, read_values, returns}
use Rattle.machine_core.specs.FrameRows.{expand}
use Rattle.machine_core.specs.Moves.{run}
use Rattle.lua_heap.specs.declared.world.World.{World as Memory}
use Rattle.lua_heap.specs.Plain.{plain}
use Rattle.move_laws.specs.Memory.{CanDo, IsSafe, IsSound}

pub record MayReturn (W : Memory) (from count : ℕ) : Type 0 where
  pub env : List Value
  pub safe : IsSafe (expand (returns from count)) env W

-- and in a sound world there are these registers
pub record MayReturnSome (W : Memory) (from count : ℕ) : Type 0 where
  pub sound : IsSound W
  pub there : CanDo W (read_registers from count)
  pub safe : MayReturn W from count

-- so many values are read where a row reads one fewer than a number, or for 0 an open list
pub record Gives (W : Memory) (from count given : ℕ) : Type 0 where
  pub values : List Value
  pub told : Shape
  pub goes : (k : ℕ → Shape → Text) (env : List Value) (fuel : ℕ) → run (expand (read_values from count k)) env (plain W fuel) ≡ run (expand (k (length env) told)) (env ++ values) (plain W fuel)
  pub is : cond (count == 0) (counted told) (count - 1) ≡ given
  pub there : CanDo W (read_registers from given)

-- Operators on two integers.
use Rattle.std.specs.Prelude.{◌≡◌, ℕ, ℤ, List, ◌++◌, Option}
use Rattle.int_core.specs.Operations.{Event}
use Rattle.int_core.specs.Value.{integer, Value}
use Rattle.machine_core.specs.Text.{written, write_register, Text}
use Rattle.machine_core.specs.InstructionRows.{fast, skip, then}
use Rattle.machine_core.specs.FrameRows.{expand}
use Rattle.machine_core.specs.Moves.{run}
use Rattle.lua_heap.specs.declared.world.World.{World as Memory}
use Rattle.lua_heap.specs.Plain.{plain}
use Rattle.instruction_forms.specs.declared.operand.Operand.{Operand}
use Rattle.instruction_forms.specs.Forms.{with_integer}
use Rattle.move_laws.specs.Memory.{IsSafe}

-- an operand is read where a row goes on with the integer that it is
pub record IsReadAsInteger (W : Memory) (from : Operand) : Type 0 where
  pub more : Option ℤ → Text
  pub env : List Value
  pub safe : IsSafe (expand (with_integer from more)) env W

-- what a row goes on with
pub record ReadsInteger (W : Memory) (from : Operand) (n : Option ℤ) : Type 0 where
  pub values : List Value
  pub goes : (more : Option ℤ → Text) (env : List Value) (fuel : ℕ) → run (expand (with_integer from more)) env (plain W fuel) ≡ run (expand (more n)) (env ++ values) (plain W fuel)

pub record MayCompute (W : Memory) (event : Event) (m n : Option ℤ) (to : ℕ) : Type 0 where
  pub env : List Value
  pub safe : IsSafe (expand (fast event to m n)) env W

-- an integer goes to a register
abbrev pub puts : ℕ → ℤ → Text
puts to n = then (write_register to (written (integer n))) skip

pub record MayPut (W : Memory) (to : ℕ) (n : ℤ) : Type 0 where
  pub env : List Value
  pub safe : IsSafe (expand (puts to n)) env W

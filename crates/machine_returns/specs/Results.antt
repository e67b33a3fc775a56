-- Results that come to registers.
use Rattle.std.specs.Prelude.{◌≡◌, ℕ, zero, suc, List, drop, map}
use Rattle.int_core.specs.Value.{Value}
use Rattle.machine_core.specs.Text.{Own, write_list, write_registers}
use Rattle.machine_core.specs.InstructionRows.{write_values}
use Rattle.machine_core.specs.FrameRows.{When, expand_by}
use Rattle.table_core.specs.declared.value.Value.{Value as Kept}
use Rattle.lua_heap.specs.declared.world.World.{World as Memory}
use Rattle.lua_heap.specs.Reading.{value}
use Rattle.move_laws.specs.Memory.{IsSafe}

-- a row that writes these values, by some names, does not trap
pub record MayTake (W : Memory) (to count : ℕ) (values : List Kept) : Type 0 where
  pub when : When
  pub env : List Value
  pub slot : ℕ
  pub are : drop slot env ≡ map (value W.strings) values
  pub safe : IsSafe (expand_by when (write_values to count slot)) env W

-- the move that writes the values from a slot on to one register fewer than a number, or for 0 as an open list
abbrev pub writing : (to count slot : ℕ) → Own
writing to zero slot = write_list to slot
writing to (suc count) slot = write_registers to count slot

-- Variables that are marked as to be closed.
use Rattle.std.specs.Prelude.{ℕ, List, pos}
use Rattle.int_core.specs.Value.{Value}
use Rattle.machine_core.specs.Text.{Text, go_by, mark_pending}
use Rattle.machine_core.specs.InstructionRows.{then}
use Rattle.machine_core.specs.FrameRows.{expand}
use Rattle.lua_heap.specs.declared.world.World.{World as Memory}
use Rattle.move_laws.specs.Memory.{IsSafe}

-- a register is marked, and the frame goes on
abbrev pub marked : (register ahead : ℕ) → Text
marked register ahead = then (mark_pending register) (go_by (pos ahead))

-- which does not trap
pub record MayMark (W : Memory) (register ahead : ℕ) : Type 0 where
  pub env : List Value
  pub safe : IsSafe (expand (marked register ahead)) env W

-- What reaches the frame on top.
use Rattle.std.specs.Prelude.{[]}
use Rattle.machine_core.specs.Moves.{Row}
use Rattle.lua_heap.specs.declared.world.World.{World as Memory}
use Rattle.move_laws.specs.Memory.{IsSafe, IsSound}

-- an error may do so by this row, which does not trap
pub record MayReach (row : Row) (W : Memory) : Type 0 where
  pub sound : IsSound W
  pub safe : IsSafe row [] W

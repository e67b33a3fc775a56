-- A world in memory whose script may be resumed.
use Rattle.std.specs.Prelude.{length}
use Rattle.library_rows.specs.Library.{all_entries}
use Rattle.machine_sound.specs.Sound.{Sound}
use Rattle.machine_runs.specs.Laws.{MayTurn}
use Rattle.lua_heap.specs.declared.world.World.{World as Memory}
use Rattle.lua_heap.specs.Plain.{plain}
use Rattle.move_laws.specs.Memory.{InOrder}

-- the script has not begun, or has yielded
pub record MayGoOn (W : Memory) : Type 0 where
  pub sound : Sound (length all_entries) (plain W 0)
  pub order : InOrder W
  pub may : MayTurn (plain W 0)

-- What becomes of a stack, the tables and the cells while the frame on top runs.
use Rattle.std.specs.Prelude.{◌≡◌, ℕ, List}
use Rattle.machine_focus.specs.Focus.{Reaches}
use Rattle.table_core.specs.Table.{Contents}
use Rattle.lua_stack.specs.Frames.{KeptStack}
use Rattle.lua_heap.specs.declared.world.Cell.{Cell}
use Rattle.machine_arms_tables.specs.Frame.{AreOpenAlike}
use Rattle.machine_loop.specs.Running.{Running}
use Rattle.frame_calls.specs.Standing.{standing}

-- some steps of the machine lead from these to those; the same cells are open, and the stack lists the same
pub record Advances (g : Running) (s u : KeptStack) (ts ts' : List Contents) (cs cs' : List Cell) (fuel left : ℕ) : Type 0 where
  pub reaches : Reaches g.around.rows (standing g s ts cs fuel) (standing g u ts' cs' left)
  pub opened : AreOpenAlike cs cs'
  pub listed : u.open_cells ≡ s.open_cells

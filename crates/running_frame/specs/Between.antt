-- Where the frame on top is between two rounds of the loop over its instructions, and what leads on from there and changes the stack alone, whatever the budget is.
use Rattle.std.specs.Prelude.{◌≡◌, ℕ, List}
use Rattle.machine_focus.specs.Focus.{Reaches}
use Rattle.lua_stack.specs.Frames.{KeptStack}
use Rattle.table_core.specs.Table.{Contents}
use Rattle.lua_heap.specs.declared.world.Cell.{Cell}
use Rattle.machine_arms_tables.specs.Frame.{Code}
use Rattle.machine_loop.specs.Running.{Running}
use Rattle.frame_calls.specs.Standing.{RunsAt, standing}

-- it runs at this place, with some budget
pub record RunsWith (g : Running) (k : Code) (s : KeptStack) (tables : List Contents) (cells : List Cell) (pc : ℕ) : Type 0 where
  pub fuel : ℕ
  pub runs : RunsAt g k s tables cells fuel pc

-- some steps of the machine lead from one place of it to another
pub record GoesWith (g : Running) (k : Code) (s u : KeptStack) (tables : List Contents) (cells : List Cell) (pc to : ℕ) : Type 0 where
  pub runs : (fuel : ℕ) → RunsAt g k s tables cells fuel pc → RunsAt g k u tables cells fuel to
  pub reaches : (fuel : ℕ) → RunsAt g k s tables cells fuel pc → Reaches g.around.rows (standing g s tables cells fuel) (standing g u tables cells fuel)
  pub listed : u.open_cells ≡ s.open_cells

-- over some tables, and whatever the tables are
abbrev pub RunsOver : Running → Code → KeptStack → List Cell → (pc : ℕ) → Type 0
RunsOver g k s cells pc = (tables : List Contents) × RunsWith g k s tables cells pc

abbrev pub GoesOver : Running → Code → (s u : KeptStack) → List Cell → (pc to : ℕ) → Type 0
GoesOver g k s u cells pc to = (tables : List Contents) → GoesWith g k s u tables cells pc to

-- amid some cells, and whatever the cells are
abbrev pub RunsAmid : Running → Code → KeptStack → List Contents → (pc : ℕ) → Type 0
RunsAmid g k s tables pc = (cells : List Cell) × RunsWith g k s tables cells pc

abbrev pub GoesAmid : Running → Code → (s u : KeptStack) → List Contents → (pc to : ℕ) → Type 0
GoesAmid g k s u tables pc to = (cells : List Cell) → GoesWith g k s u tables cells pc to

-- Some steps and some more, as changes of a stack, the tables and the cells.
use Rattle.std.proofs.Common.{ℕ, List, refl, ◌∙◌}
use Rattle.table_core.specs.Table.{Contents}
use Rattle.lua_stack.specs.Frames.{KeptStack}
use Rattle.lua_heap.specs.declared.world.Cell.{Cell}
use Rattle.machine_arms_tables.specs.Frame.{Code}
use Rattle.machine_loop.specs.Running.{Running}
use Rattle.frame_calls.specs.Standing.{RunsAt, standing}
use Rattle.frame_calls.proofs.Chained.{reaches_none, reaches_then}
use Rattle.running_frame.specs.Advancing.{Advances}
use Rattle.running_frame.specs.Between.{GoesWith}

pub advances_none : (g : Running) (s : KeptStack) (ts : List Contents) (cs : List Cell) (fuel : ℕ) → Advances g s s ts ts cs cs fuel fuel
advances_none g s ts cs fuel = record { reaches = reaches_none g.around.rows (standing g s ts cs fuel); opened = refl; listed = refl }

pub advances_then : {g : Running} {s t u : KeptStack} {ts us vs : List Contents} {cs ds es : List Cell} {fuel rest left : ℕ} → Advances g s t ts us cs ds fuel rest → Advances g t u us vs ds es rest left → Advances g s u ts vs cs es fuel left
advances_then {g} x y = record { reaches = reaches_then g.around.rows x.reaches y.reaches; opened = x.opened ∙ y.opened; listed = y.listed ∙ x.listed }

pub advances_with : {g : Running} {k : Code} {s u : KeptStack} {ts : List Contents} {cs : List Cell} {pc to : ℕ} → GoesWith g k s u ts cs pc to → (fuel : ℕ) → RunsAt g k s ts cs fuel pc → Advances g s u ts ts cs cs fuel fuel
advances_with o fuel x = record { reaches = o.reaches fuel x; opened = refl; listed = o.listed }

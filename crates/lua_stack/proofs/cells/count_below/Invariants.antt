use Rattle.std.proofs.Common.{◌≤◌, drop, length}
use Rattle.lua_stack.specs.View.{FirstFrom}
use Rattle.lua_stack.proofs.cells.count_below.Given as goal

abbrev pub invariant-back : goal.invariant-back
invariant-back l = (l.count ≤ length l.cells) × FirstFrom l.frame l.register (drop l.count l.cells)

abbrev pub decreases-back : goal.decreases-back
decreases-back l = l.count

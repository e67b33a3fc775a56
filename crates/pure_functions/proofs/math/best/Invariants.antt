use Rattle.std.proofs.Common.{◌≡◌, drop, suc}
use Rattle.library_arguments.specs.Shapes.{shapes_of}
use Rattle.library_rows.specs.Integers.{best, best_of}
use Rattle.pure_functions.specs.Math.{better_than}
use Rattle.pure_functions.proofs.math.best.Given as goal

abbrev pub invariant-loop-at : goal.invariant-loop-at
invariant-loop-at l = best_of (better_than l.wanted) l.function (shapes_of l.shapes) ≡ best (better_than l.wanted) l.function (suc l.at) l.best (drop l.at (shapes_of l.shapes))

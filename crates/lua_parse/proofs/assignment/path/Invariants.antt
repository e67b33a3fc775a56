use Rattle.std.proofs.Common.{length}
use Rattle.tree_making.specs.Made.{plain_boxed}
use Rattle.lua_parse.specs.Moves.{path}
use Rattle.lua_parse.specs.Grammar.{expects}
use Rattle.lua_parse.proofs.Steps.{Grows}
use Rattle.lua_parse.proofs.assignment.path.Given as goal

abbrev pub invariant-loop-alloc : goal.invariant-loop-alloc
invariant-loop-alloc l = Grows (expects l.room.max (path (plain_boxed l.fn.first.node) l.fn.first.height)) l.fn.cursor (expects l.room.max (path (plain_boxed l.left.node) l.left.height)) l.cursor l.left.height l.room.max

abbrev pub decreases-loop-alloc : goal.decreases-loop-alloc
decreases-loop-alloc l = length l.cursor

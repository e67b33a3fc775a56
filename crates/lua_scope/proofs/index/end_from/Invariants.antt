-- All statements do nothing from there on.
use Rattle.std.proofs.Common.{◌≤◌, length, map}
use Rattle.tree_core.specs.Plain.{plain_stat}
use Rattle.lua_scope.proofs.Indexing.{AllDone}
use Rattle.lua_scope.proofs.index.end_from.Given as goal

abbrev pub invariant-loop-from : goal.invariant-loop-from
invariant-loop-from l = (l.from ≤ length l.list.items) × AllDone (map plain_stat l.list.items) l.from

abbrev pub decreases-loop-from : goal.decreases-loop-from
decreases-loop-from l = l.from

-- All statements are void from there on.
use Rattle.std.proofs.Common.{◌≤◌, length}
use Rattle.code_stat.proofs.Scoping.{AllVoid}
use Rattle.code_stat.proofs.scope.void_from.Given as goal

abbrev pub invariant-loop-from : goal.invariant-loop-from
invariant-loop-from l = (l.from ≤ length l.list.items) × AllVoid l.list.items l.from

abbrev pub decreases-loop-from : goal.decreases-loop-from
decreases-loop-from l = l.from

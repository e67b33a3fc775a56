-- The jumps up to a place are led anew, and the others are not.
use Rattle.std.proofs.Common.{◌≡◌, ◌≤◌, ◌-◌, List, length, take, drop}
use Rattle.code_of.specs.Jumps.{Reach}
use Rattle.code_of.specs.Statements.{in_loop}
use Rattle.code_emitter.specs.declared.emitter.Step.{Step}
use Rattle.code_stat.specs.Drafts.{arrives, fill}
use Rattle.code_stat.proofs.jumps.leave_all.Given as goal

abbrev pub invariant-loop-i : goal.invariant-loop-i
invariant-loop-i l =
    (l.from ≤ l.i)
    × (take l.from l.jumps.items ≡ take l.from l.fn.jumps.items)
    × ((reach : Reach) (xs : List Step) → fill (arrives reach) (drop l.from (take l.i l.jumps.items)) (fill (arrives (in_loop reach l.to.place l.to.level)) (drop l.i l.jumps.items) xs) ≡ fill (arrives (in_loop reach l.to.place l.to.level)) (drop l.from l.fn.jumps.items) xs)

abbrev pub decreases-loop-i : goal.decreases-loop-i
decreases-loop-i l = length l.jumps.items - l.i

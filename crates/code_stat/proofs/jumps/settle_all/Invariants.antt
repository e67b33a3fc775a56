-- The jumps up to a place are led anew, and the others are not.
use Rattle.std.proofs.Common.{◌≡◌, ◌≤◌, ◌-◌, List, [], length, take, drop}
use Rattle.code_of.specs.Jumps.{Visible, Reach}
use Rattle.code_emitter.specs.declared.emitter.Step.{Step}
use Rattle.code_stat.specs.Drafts.{newest_first, leads_to, arrives, within, fill}
use Rattle.code_stat.proofs.jumps.settle_all.Given as goal

abbrev pub invariant-loop-i : goal.invariant-loop-i
invariant-loop-i l =
    (l.from ≤ l.i)
    × (take l.from l.jumps.items ≡ take l.from l.fn.jumps.items)
    × ((ahead : List Visible) (reach : Reach) (xs : List Step) → fill (leads_to ahead reach) (drop l.from (take l.i l.jumps.items)) (fill (arrives (within ahead (newest_first l.passed.items []) reach)) (drop l.i l.jumps.items) xs) ≡ fill (arrives (within ahead (newest_first l.passed.items []) reach)) (drop l.from l.fn.jumps.items) xs)

abbrev pub decreases-loop-i : goal.decreases-loop-i
decreases-loop-i l = length l.jumps.items - l.i

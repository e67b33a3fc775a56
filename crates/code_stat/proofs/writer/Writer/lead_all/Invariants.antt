-- The jumps from a place on are in their places.
use Rattle.std.proofs.Common.{◌≡◌, ◌≤◌, length, drop}
use Rattle.code_stat.specs.Whole.{filled}
use Rattle.code_stat.proofs.writer.Writer.lead_all.Given as goal

abbrev pub invariant-loop-left : goal.invariant-loop-left
invariant-loop-left l =
    (l.left ≤ length l.self.jumps.items)
    × (l.self.jumps ≡ l.fn.self.jumps)
    × (l.self.variables ≡ l.fn.self.variables)
    × (l.self.emitter ≡ filled l.fn.self.emitter (drop l.left l.self.jumps.items))

abbrev pub decreases-loop-left : goal.decreases-loop-left
decreases-loop-left l = l.left

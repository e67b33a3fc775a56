use Rattle.std.proofs.Common.{◌≡◌, ◌≤◌, None, drop, length}
use Rattle.machine_core.specs.Text.{last_pending}
use Rattle.lua_stack.proofs.pending.last_from.Given as goal

abbrev pub invariant-back : goal.invariant-back
invariant-back l = (l.count ≤ length l.marks) × (last_pending l.register (drop l.count l.marks) ≡ None)

abbrev pub decreases-back : goal.decreases-back
decreases-back l = l.count

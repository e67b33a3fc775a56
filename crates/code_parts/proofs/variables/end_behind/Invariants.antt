-- Ending the scopes that are left leads to what ending all leads to.
use Rattle.std.proofs.Common.{◌≡◌, ◌-◌, length}
use Rattle.code_parts.specs.Scopes.{ended_from}
use Rattle.code_parts.proofs.variables.end_behind.Given as goal

abbrev pub invariant-loop-number : goal.invariant-loop-number
invariant-loop-number l = ended_from l.number l.place l.list.items ≡ ended_from l.first l.place l.fn.list.items

abbrev pub decreases-loop-number : goal.decreases-loop-number
decreases-loop-number l = length l.list.items - l.number

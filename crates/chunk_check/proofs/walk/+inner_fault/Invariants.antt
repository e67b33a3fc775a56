use Rattle.std.proofs.Common.{◌≡◌, ◌+◌, ◌≤◌, true, drop}
use Rattle.code_core.specs.Prototype.{prototypes, count}
use Rattle.code_core.specs.Writable.{is_writable}
use Rattle.chunk_check.specs.Faults.{inner_faults}
use Rattle.chunk_check.proofs.walk.+inner_fault.Given as goal

abbrev pub invariant-loop-inner : goal.invariant-loop-inner
invariant-loop-inner l =
    (inner_faults l.next (prototypes (drop l.inner-index l.inner-items)) ≡ inner_faults l.first l.proto.inner)
    × (l.next + count (prototypes (drop l.inner-index l.inner-items)) ≡ l.first + count l.proto.inner)
    × (is_writable (record { own = l.proto.own; inner = prototypes (drop l.inner-index l.inner-items) }) ≡ true)
    × (l.first ≤ l.next)

abbrev pub decreases-inner_fault : goal.decreases-inner_fault
decreases-inner_fault l = count l.proto.now.inner

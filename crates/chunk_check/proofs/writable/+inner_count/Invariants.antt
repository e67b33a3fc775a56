use Rattle.std.proofs.Common.{◌≡◌, ◌<◌, ◌+◌, ◌-◌, ◌^◌, min, drop}
use Rattle.code_core.specs.Prototype.{prototypes, count}
use Rattle.chunk_check.proofs.writable.+inner_count.Given as goal

abbrev pub invariant-loop-inner : goal.invariant-loop-inner
invariant-loop-inner l = (l.total < 2 ^ 64) × (min (l.total + count (prototypes (drop l.inner-index l.inner-items))) (2 ^ 64 - 1) ≡ min (count l.proto.inner) (2 ^ 64 - 1))

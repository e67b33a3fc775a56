use Rattle.std.proofs.Common.{◌≡◌, ◌<◌, ◌-◌, ◌^◌, max, min, drop}
use Rattle.code_core.specs.Prototype.{prototypes}
use Rattle.code_core.specs.Writable.{depth}
use Rattle.chunk_check.proofs.writable.+depth.Given as goal

abbrev pub invariant-loop-inner : goal.invariant-loop-inner
invariant-loop-inner l = (l.greatest < 2 ^ 32) × (min (max l.greatest (depth (prototypes (drop l.inner-index l.inner-items)))) (2 ^ 32 - 1) ≡ min (depth l.proto.inner) (2 ^ 32 - 1))

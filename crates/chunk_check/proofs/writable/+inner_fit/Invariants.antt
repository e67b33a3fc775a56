use Rattle.std.proofs.Common.{◌≡◌, drop}
use Rattle.code_core.specs.Prototype.{prototypes}
use Rattle.code_core.specs.Writable.{all_fit}
use Rattle.chunk_check.proofs.writable.+inner_fit.Given as goal

abbrev pub invariant-loop-inner : goal.invariant-loop-inner
invariant-loop-inner l = all_fit l.proto.own (prototypes (drop l.inner-index l.inner-items)) ≡ all_fit l.proto.own l.proto.inner

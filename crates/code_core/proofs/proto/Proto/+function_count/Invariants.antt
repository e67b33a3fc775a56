use Rattle.std.proofs.Common.{◌≡◌, ◌+◌, drop}
use Rattle.code_core.specs.Prototype.{function_count, prototypes, count}
use Rattle.code_core.proofs.proto.Proto.+function_count.Given as goal

abbrev pub invariant-loop-inner : goal.invariant-loop-inner
invariant-loop-inner l = l.total + count (prototypes (drop l.inner-index l.inner-items)) ≡ function_count l.self

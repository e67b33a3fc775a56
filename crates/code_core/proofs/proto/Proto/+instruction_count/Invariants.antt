use Rattle.std.proofs.Common.{◌≡◌, ◌+◌, drop}
use Rattle.code_core.specs.Prototype.{instruction_count, prototypes, inner_instructions}
use Rattle.code_core.proofs.proto.Proto.+instruction_count.Given as goal

abbrev pub decreases-instruction_count : goal.decreases-instruction_count
decreases-instruction_count l = goal.size-instruction_count l

abbrev pub invariant-loop-inner : goal.invariant-loop-inner
invariant-loop-inner l = l.total + inner_instructions (prototypes (drop l.inner-index l.inner-items)) ≡ instruction_count l.self

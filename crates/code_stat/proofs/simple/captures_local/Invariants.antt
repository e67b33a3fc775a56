-- What is left of the upvalues has the local if all have it.
use Rattle.std.proofs.Common.{◌≡◌, drop}
use Rattle.code_of.specs.Parts.{captures_local}
use Rattle.code_stat.proofs.simple.captures_local.Given as goal

abbrev pub invariant-loop-upvalue : goal.invariant-loop-upvalue
invariant-loop-upvalue l = captures_local l.register (drop l.upvalue-index l.upvalue-items) ≡ captures_local l.register l.upvalues.items

use Rattle.std.proofs.Common.{◌≡◌, drop}
use Rattle.chunk_check.specs.Faults.{code_faults}
use Rattle.chunk_check.proofs.walk.other_places.Given as goal

abbrev pub invariant-loop-pc : goal.invariant-loop-pc
invariant-loop-pc l =
    code_faults l.function l.proto l.pc (drop l.pc l.proto.own.code) ≡ code_faults l.function l.proto 1 (drop 1 l.proto.own.code)

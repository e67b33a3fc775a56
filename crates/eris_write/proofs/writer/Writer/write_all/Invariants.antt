use Rattle.std.proofs.Common.{take}
use Rattle.eris_write.specs.Writing.{Writes}
use Rattle.eris_write.proofs.Written.{value_fields, value_bytes}
use Rattle.eris_write.proofs.writer.Writer.write_all.Given as goal

abbrev pub invariant-loop-at : goal.invariant-loop-at
invariant-loop-at l = Writes l.self l.initial.out l.out (value_fields l.self (take l.at l.values)) (value_bytes l.self (take l.at l.values))

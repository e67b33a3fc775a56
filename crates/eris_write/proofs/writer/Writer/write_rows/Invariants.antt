use Rattle.std.proofs.Common.{take}
use Rattle.eris_write.specs.Writing.{Writes}
use Rattle.eris_write.proofs.Written.{rows_fields, rows_bytes}
use Rattle.eris_write.proofs.writer.Writer.write_rows.Given as goal

abbrev pub invariant-loop-at : goal.invariant-loop-at
invariant-loop-at l = Writes l.self l.initial.out l.out (rows_fields l.self (take l.at l.table.rows)) (rows_bytes l.self (take l.at l.table.rows))

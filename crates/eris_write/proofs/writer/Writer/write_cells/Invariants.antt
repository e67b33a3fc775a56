use Rattle.std.proofs.Common.{take}
use Rattle.eris_write.specs.Writing.{Writes}
use Rattle.eris_write.proofs.Recorded.{cell_fields_of, cell_bytes}
use Rattle.eris_write.proofs.writer.Writer.write_cells.Given as goal

abbrev pub invariant-loop-at : goal.invariant-loop-at
invariant-loop-at l = Writes l.self l.initial.out l.out (cell_fields_of (take l.at l.cells)) (cell_bytes l.self (take l.at l.cells))

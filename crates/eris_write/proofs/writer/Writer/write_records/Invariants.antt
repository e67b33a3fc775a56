use Rattle.std.proofs.Common.{ℕ, take}
use Rattle.std.specs.Prelude.{flat_map}
use Rattle.eris_write.specs.Images.{fields_in, records_bytes}
use Rattle.eris_write.specs.Writing.{Writes}
use Rattle.eris_write.proofs.writer.Writer.write_records.Given as goal

abbrev pub invariant-loop-at : goal.invariant-loop-at
invariant-loop-at l = (fuel : ℕ) → Writes l.self l.initial.out l.out (flat_map (fields_in l.self fuel) (take l.at l.self.numbering.now.order.keys)) (records_bytes l.self fuel (take l.at l.self.numbering.now.order.keys))

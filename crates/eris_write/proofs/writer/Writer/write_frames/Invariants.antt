use Rattle.std.proofs.Common.{take}
use Rattle.eris_write.specs.Writing.{Writes}
use Rattle.eris_write.proofs.Recorded.{frames_fields, frames_bytes}
use Rattle.eris_write.proofs.writer.Writer.write_frames.Given as goal

abbrev pub invariant-loop-at : goal.invariant-loop-at
invariant-loop-at l = Writes l.self l.initial.out l.out (frames_fields l.self (take l.at l.stack.frames)) (frames_bytes l.self (take l.at l.stack.frames))

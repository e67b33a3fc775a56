use Rattle.eris_write.proofs.Putting.{on_ok}
use Rattle.eris_write.proofs.Recorded.{closed_written}
use Rattle.eris_write.proofs.writer.Writer.write_closed.Goals as goal

pub returns : goal.returns
returns c = on_ok c.write.result c.write.ensures (λ h. closed_written c.args.self.now c.args.value _ _ _ c.in_ok-put_byte.ensures h)

use Rattle.eris_write.proofs.Putting.{on_ok}
use Rattle.eris_write.proofs.Recorded.{error_written}
use Rattle.eris_write.proofs.writer.Writer.write_some.Goals as goal

pub returns : goal.returns
returns c = on_ok c.write.result c.write.ensures (λ h. error_written c.args.self.now c.args.error _ _ _ c.in_ok-put_byte.ensures h)

use Rattle.eris_write.proofs.Putting.{on_ok}
use Rattle.eris_write.proofs.Recorded.{xpcall_written}
use Rattle.eris_write.proofs.writer.Writer.write_xpcall.Goals as goal

pub returns : goal.returns
returns c = on_ok c.write.result c.write.ensures (λ h. xpcall_written c.args.self.now c.args.handler _ _ _ c.in_ok-put_byte.ensures h)

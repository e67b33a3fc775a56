use Rattle.eris_write.proofs.Putting.{on_ok}
use Rattle.eris_write.proofs.Recorded.{fresh_written}
use Rattle.eris_write.proofs.writer.Writer.write_fresh.Goals as goal

pub returns : goal.returns
returns c = on_ok c.write.result c.write.ensures (λ h. fresh_written c.args.self.now c.args.body _ _ _ c.in_ok-put_byte.ensures h)

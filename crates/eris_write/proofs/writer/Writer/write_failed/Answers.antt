use Rattle.eris_write.proofs.Putting.{on_ok}
use Rattle.eris_write.proofs.Recorded.{failed_written}
use Rattle.eris_write.proofs.writer.Writer.write_failed.Goals as goal

pub returns : goal.returns
returns c =
    on_ok c.write_list.result c.write_list.ensures
    (λ h. failed_written c.args.self.now c.args.error c.args.pending.now _ _ _ _ c.in_ok-put_byte.ensures c.in_ok-write.ensures h)

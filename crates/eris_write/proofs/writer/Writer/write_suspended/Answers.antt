use Rattle.eris_write.proofs.Putting.{on_ok}
use Rattle.eris_write.proofs.Recorded.{suspended_written}
use Rattle.eris_write.proofs.writer.Writer.write_suspended.Goals as goal

pub returns : goal.returns
returns c =
    on_ok c.write_frames.result c.write_frames.ensures
    (λ h. suspended_written c.args.self.now c.args.stack.now.frames c.len.result _ _ _ _ c.len.ensures c.in_ok-put_byte.ensures c.in_ok-put_word.ensures h)

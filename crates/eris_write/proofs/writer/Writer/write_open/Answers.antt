use Rattle.std.proofs.Common.{[], subst}
use Rattle.eris_write.specs.Output.{Puts}
use Rattle.eris_write.proofs.Putting.{on_ok}
use Rattle.eris_write.proofs.Recorded.{open_written}
use Rattle.eris_write.proofs.writer.Writer.write_open.Goals as goal

pub returns : goal.returns
returns c =
    on_ok c.put_word-3.result c.put_word-3.ensures
    (λ h. open_written c.args.self.now c.args.place c.number.result _ _ _ _ _ _ c.number.ensures (subst (λ r. Puts c.args.out.now c.refuse.new.self r (λ _. [])) c.coroutine_refusal.ensures c.refuse.ensures)
    c.in_ok-put_byte.ensures c.in_ok-put_word.ensures c.in_ok-put_word-2.ensures h)

use Rattle.eris_write.proofs.Putting.{on_ok, puts_both}
use Rattle.eris_write.proofs.output.Output.put_text_item.Goals as goal

pub returns : goal.returns
returns c = on_ok c.put.result c.put.ensures (λ h. puts_both (puts_both c.in_ok-put_byte.ensures c.in_ok-put_word.ensures) h)

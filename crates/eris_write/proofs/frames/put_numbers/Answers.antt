use Rattle.eris_write.proofs.Putting.{on_ok}
use Rattle.eris_write.proofs.Recorded.{numbers_written}
use Rattle.eris_write.proofs.frames.put_numbers.Goals as goal

pub returns : goal.returns
returns c = on_ok c.put_words.result c.put_words.ensures (λ h. numbers_written c.args.numbers.now _ _ _ c.in_ok-put_word.ensures h)

use Rattle.std.proofs.Common.{refl, length}
use Rattle.eris_write.proofs.Putting.{on_ok}
use Rattle.eris_write.proofs.Written.{list_written}
use Rattle.eris_write.proofs.writer.Writer.write_list.Goals as goal

pub returns : goal.returns
returns c = on_ok c.write_all.result c.write_all.ensures (λ h. list_written c.args.self.now c.args.values.now (length c.args.values.now) _ _ _ refl c.in_ok-put_word.ensures h)

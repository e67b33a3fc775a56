use Rattle.eris_write.proofs.Written.{next_value}
use Rattle.eris_write.proofs.writer.Writer.write_all.Goals as goal

pub write-requires : goal.write-requires
write-requires c = c.requires c.loop-at.at c.item_at.result c.item_at.ensures

pub loop-at-preserved : goal.loop-at-preserved
loop-at-preserved c = next_value c.args.self.now c.args.values.now c.loop-at.at c.item_at.result _ _ _ c.item_at.ensures c.loop-at.invariant c.in_ok-write.ensures

use Rattle.eris_write.proofs.Written.{next_nil}
use Rattle.eris_write.proofs.writer.Writer.write_nils.Goals as goal

pub loop-at-preserved : goal.loop-at-preserved
loop-at-preserved c = next_nil c.args.self.now c.loop-at.at _ _ _ c.loop-at.invariant c.in_ok-write.ensures

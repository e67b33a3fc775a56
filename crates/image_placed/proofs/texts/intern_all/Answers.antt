use Rattle.image_placed.proofs.MoreAdded.{adds_then}
use Rattle.image_placed.proofs.texts.intern_all.Goals as goal

pub returns-in_err-intern : goal.returns-in_err-intern
returns-in_err-intern c = adds_then c.args.world.now c.loop-item.world c.intern.new.world c.loop-item.invariant c.intern.ensures

pub loop-item-preserved : goal.loop-item-preserved
loop-item-preserved c = adds_then c.args.world.now c.loop-item.world c.intern.new.world c.loop-item.invariant c.intern.ensures

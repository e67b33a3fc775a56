use Rattle.image_placed.proofs.MoreAdded.{adds_then}
use Rattle.image_placed.proofs.texts.intern_row.Goals as goal

pub returns : goal.returns
returns c = adds_then c.args.world.now c.intern.new.world c.intern-2.new.world c.intern.ensures c.intern-2.ensures

use Rattle.image_placed.proofs.MoreAdded.{adds_then}
use Rattle.image_placed.proofs.texts.intern_frame.Goals as goal

pub returns-in-Some : goal.returns-in-Some
returns-in-Some c = adds_then c.args.world.now c.intern_all.new.world c.intern-in-Some.new.world c.intern_all.ensures c.intern-in-Some.ensures

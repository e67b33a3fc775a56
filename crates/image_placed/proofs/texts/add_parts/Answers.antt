use Rattle.image_placed.proofs.MoreAdded.{adds_then}
use Rattle.image_placed.proofs.texts.add_parts.Goals as goal

pub returns-clause-added : goal.returns-clause-added
returns-clause-added c = adds_then c.args.world.now c.intern_all.new.world c.parts_of.new.world c.intern_all.ensures c.parts_of.ensures.added

use Rattle.image_placed.proofs.MoreAdded.{adds_then}
use Rattle.image_placed.proofs.texts.intern_record.Goals as goal

pub returns-in_ok-intern_rows-in-Table : goal.returns-in_ok-intern_rows-in-Table
returns-in_ok-intern_rows-in-Table c = adds_then c.args.world.now c.intern_rows.new.world c.intern.new.world c.intern_rows.ensures c.intern.ensures

pub returns-in_ok-intern-in-Failed : goal.returns-in_ok-intern-in-Failed
returns-in_ok-intern-in-Failed c = adds_then c.args.world.now c.intern-in-Failed.new.world c.intern_all.new.world c.intern-in-Failed.ensures c.intern_all.ensures

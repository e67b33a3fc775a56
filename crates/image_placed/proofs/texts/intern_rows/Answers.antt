use Rattle.image_placed.proofs.MoreAdded.{adds_then}
use Rattle.image_placed.proofs.texts.intern_rows.Goals as goal

pub returns-in_err-intern_row : goal.returns-in_err-intern_row
returns-in_err-intern_row c = adds_then c.args.world.now c.loop-row.world c.intern_row.new.world c.loop-row.invariant c.intern_row.ensures

pub loop-row-preserved : goal.loop-row-preserved
loop-row-preserved c = adds_then c.args.world.now c.loop-row.world c.intern_row.new.world c.loop-row.invariant c.intern_row.ensures

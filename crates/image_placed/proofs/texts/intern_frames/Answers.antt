use Rattle.image_placed.proofs.MoreAdded.{adds_then}
use Rattle.image_placed.proofs.texts.intern_frames.Goals as goal

pub returns-in_err-intern_frame : goal.returns-in_err-intern_frame
returns-in_err-intern_frame c = adds_then c.args.world.now c.loop-frame.world c.intern_frame.new.world c.loop-frame.invariant c.intern_frame.ensures

pub loop-frame-preserved : goal.loop-frame-preserved
loop-frame-preserved c = adds_then c.args.world.now c.loop-frame.world c.intern_frame.new.world c.loop-frame.invariant c.intern_frame.ensures

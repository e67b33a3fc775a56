use Rattle.image_placed.specs.Placing.{AddsMore}
use Rattle.image_placed.proofs.texts.intern_frames.Given as goal

abbrev pub invariant-loop-frame : goal.invariant-loop-frame
invariant-loop-frame l = AddsMore l.initial.world l.world

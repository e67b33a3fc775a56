use Rattle.image_placed.specs.Placing.{AddsMore}
use Rattle.image_placed.proofs.texts.intern_all.Given as goal

abbrev pub invariant-loop-item : goal.invariant-loop-item
invariant-loop-item l = AddsMore l.initial.world l.world

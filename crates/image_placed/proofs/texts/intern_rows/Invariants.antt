use Rattle.image_placed.specs.Placing.{AddsMore}
use Rattle.image_placed.proofs.texts.intern_rows.Given as goal

abbrev pub invariant-loop-row : goal.invariant-loop-row
invariant-loop-row l = AddsMore l.initial.world l.world

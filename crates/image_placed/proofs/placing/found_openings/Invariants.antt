use Rattle.image_placed.specs.Placing.{AreAll}
use Rattle.image_placed.proofs.placing.found_openings.Given as goal

abbrev pub invariant-loop-at : goal.invariant-loop-at
invariant-loop-at l = AreAll l.world.cells.objects l.first l.at l.openings.items

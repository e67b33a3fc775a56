use Rattle.image_placed.proofs.OpenListed.{none_found, closed_found, open_found, fewer_found, all_sorted}
use Rattle.image_placed.proofs.ObjectsPlaced.{all_placed}
use Rattle.image_placed.proofs.placing.found_openings.Goals as goal

pub loop-at-init : goal.loop-at-init
loop-at-init c = none_found _ _ _ c.new-openings.ensures.items

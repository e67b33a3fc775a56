use Rattle.image_placed.proofs.OpenListed.{all_sorted}
use Rattle.image_placed.proofs.placing.openings_of.Goals as goal

pub returns : goal.returns
returns c = all_sorted _ _ _ c.in_ok-openings.openings.items c.sort_by_key.new.self.items c.sort_by_key.ensures.permutation c.in_ok-openings.ensures

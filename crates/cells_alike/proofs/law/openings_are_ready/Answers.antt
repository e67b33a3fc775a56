use Rattle.cells_alike.proofs.Begun.{opening_ready}
use Rattle.cells_alike.proofs.law.openings_are_ready.Goals as goal

pub returns : goal.returns
returns c = opening_ready

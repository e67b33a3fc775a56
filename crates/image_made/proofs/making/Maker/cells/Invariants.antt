use Rattle.std.proofs.Common.{◌≡◌, List, map, take}
use Rattle.image_core.specs.Image.{Record}
use Rattle.image_core.specs.Loading.{Target, new_cell}
use Rattle.image_made.specs.Making.{IsMaker}
use Rattle.image_made.proofs.making.Maker.cells.Given as goal

abbrev pub invariant-loop-at : goal.invariant-loop-at
invariant-loop-at l = (T : Target) (rs : List Record) → IsMaker T rs l.self → map (λ c. c.0) l.cells.items ≡ map (new_cell T rs) (take l.at l.records)

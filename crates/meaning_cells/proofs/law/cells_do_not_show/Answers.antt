use Rattle.meaning_cells.proofs.Steps.{alike_steps, starts_alike}
use Rattle.meaning_cells.proofs.law.cells_do_not_show.Goals as goal

pub returns : goal.returns
returns c = λ n cells body arguments are even. alike_steps n cells _ _ (starts_alike cells body arguments are even)

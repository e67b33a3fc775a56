use Rattle.cells_alike.proofs.Begun.{second_ends, first_ends}
use Rattle.cells_alike.proofs.law.runs_do_not_show_cells.Goals as goal

pub returns : goal.returns
returns c = λ builds W ready s input budget m. (λ is. second_ends builds W ready s budget input m is, λ is. (first_ends builds W ready s budget input m is).ends)

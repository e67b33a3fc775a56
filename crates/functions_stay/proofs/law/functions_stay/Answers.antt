use Rattle.functions_stay.proofs.Moves.{moves_keep}
use Rattle.functions_stay.proofs.Runs.{rows_keep, steps_keep, runs_keep, onward_keeps}
use Rattle.functions_stay.proofs.law.functions_stay.Goals as goal

pub returns : goal.returns
returns c = record { moves = moves_keep; rows = rows_keep; steps = steps_keep; runs = runs_keep; onward = onward_keeps }

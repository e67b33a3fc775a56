use Rattle.runs_alike.proofs.Sides.{code_ends, tree_ends}
use Rattle.runs_alike.proofs.law.whole_runs_end_alike.Goals as goal

pub returns : goal.returns
returns c = λ trees_built code_built builds W V worlds main code name lines means input budget.
    (code_ends trees_built code_built builds W V worlds main code name lines means input budget, λ m given. (tree_ends trees_built code_built builds W V worlds main code name lines means input budget m given).ends)

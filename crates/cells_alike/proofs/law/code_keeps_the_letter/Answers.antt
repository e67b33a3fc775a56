use Rattle.cells_alike.proofs.Letter.{code_after, letter_after}
use Rattle.cells_alike.proofs.law.code_keeps_the_letter.Goals as goal

pub returns : goal.returns
returns c = λ trees_built code_built builds W V ready worlds main code name lines means input budget.
    (code_after trees_built code_built builds W V ready worlds main code name lines means input budget, λ m is. (letter_after trees_built code_built builds W V ready worlds main code name lines means input budget m is).ends)

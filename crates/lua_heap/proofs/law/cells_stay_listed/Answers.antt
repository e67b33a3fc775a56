use Rattle.lua_heap.proofs.Listed.{cell_last, coroutine_last}
use Rattle.lua_heap.proofs.law.cells_stay_listed.Goals as goal

pub returns : goal.returns
returns c cells lists a = record { cell = λ v. cell_last cells lists v a; coroutine = coroutine_last cells lists a }

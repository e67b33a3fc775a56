use Rattle.std.proofs.Common.{arith, rules}
use Rattle.frame_calls.proofs.crossing.enter_over.Goals as goal

pub enter_with_list-requires-clause-all : goal.enter_with_list-requires-clause-all
enter_with_list-requires-clause-all c = search (rules, arith)

use Rattle.std.proofs.Common.{◌≡◌, Some, rules, arith}
use Rattle.code_core.specs.Instruction.{b_of}
use Rattle.frame_calls.specs.Arguments.{by_count}
use Rattle.frame_calls.specs.Calling.{one_less}
use Rattle.frame_calls.proofs.Calls.{less_is}
use Rattle.frame_calls.proofs.spreading.count_given.Goals as goal

pub count_listed-requires : goal.count_listed-requires
count_listed-requires c = record { top = c.requires; all = search (rules, arith) }

pub returns : goal.returns
returns c =
    let count : one_less (b_of c.args.stop.word) ≡ Some c.in_ok-given.given = search rules in
    by_count (less_is (b_of c.args.stop.word) c.in_ok-given.given count)

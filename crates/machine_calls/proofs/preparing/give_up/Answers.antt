use Rattle.std.proofs.Common.{arith}
use Rattle.machine_calls.proofs.Readied.{lua_top_of, registers_of, top_after, none_after, both}
use Rattle.machine_calls.proofs.preparing.give_up.Goals as goal

pub drop_pending-requires : goal.drop_pending-requires
drop_pending-requires c = lua_top_of c.requires.top

pub cut_from-requires-clause-there : goal.cut_from-requires-clause-there
cut_from-requires-clause-there c = registers_of c.args.stack_size (omega arith) (top_after c.args.stack_size c.requires.top c.drop_pending.ensures c.requires.top.room)

pub cut_from-requires-clause-closed : goal.cut_from-requires-clause-closed
cut_from-requires-clause-closed c = none_after c.args.stack_size c.requires.top c.drop_pending.ensures c.requires.closed

pub returns : goal.returns
returns c = both c.drop_pending.ensures c.cut_from.ensures

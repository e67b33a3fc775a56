use Rattle.std.proofs.Common.{arith}
use Rattle.machine_calls.proofs.Readied.{lua_top_of, registers_of, top_after, none_after, both}
use Rattle.machine_calls.proofs.preparing.leave_so.Goals as goal

pub take_pending-requires : goal.take_pending-requires
take_pending-requires c = lua_top_of c.requires.top

pub keep_pending-requires : goal.keep_pending-requires
keep_pending-requires c =
    record {
      there = registers_of c.args.stack_size (omega arith) (top_after c.args.stack_size c.requires.top c.take_pending.ensures c.requires.top.room);
      closed = none_after c.args.stack_size c.requires.top c.take_pending.ensures c.requires.closed;
    }

pub returns : goal.returns
returns c = both c.take_pending.ensures c.keep_pending.ensures

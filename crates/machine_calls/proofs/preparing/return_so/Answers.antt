use Rattle.std.proofs.Common.{arith}
use Rattle.std.specs.Prelude.{max}
use Rattle.machine_core.specs.Text.{behind}
use Rattle.machine_calls.proofs.Readied.{lua_top_of, registers_of, top_after, none_after, both}
use Rattle.machine_calls.proofs.preparing.return_so.Goals as goal

pub take_pending-requires : goal.take_pending-requires
take_pending-requires c = lua_top_of c.requires.top

pub keep_results-requires : goal.keep_results-requires
keep_results-requires c =
    let n = max c.args.stack_size (behind c.args.from c.args.count) in
    record {
      there = registers_of n (omega arith) (top_after n c.requires.top c.take_pending.ensures c.requires.top.room);
      closed = none_after (max c.args.stack_size (behind c.args.from c.args.count)) c.requires.top c.take_pending.ensures c.requires.closed;
    }

pub returns : goal.returns
returns c = both c.take_pending.ensures c.keep_results.ensures

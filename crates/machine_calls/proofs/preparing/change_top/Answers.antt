use Rattle.machine_calls.proofs.Readied.{changed_lua_top, both}
use Rattle.machine_calls.proofs.preparing.change_top.Goals as goal

pub set_wait-requires : goal.set_wait-requires
set_wait-requires c = changed_lua_top c.args.prepared c.args.stack_size c.requires c.change.ensures

pub returns : goal.returns
returns c = both c.change.ensures c.set_wait.ensures

use Rattle.lua_stack.proofs.Wiped.{pending_kept}
use Rattle.lua_stack.proofs.stack.Stack.keep_pending.Goals as goal

pub returns : goal.returns
returns c = pending_kept c.args.self.now c.keep.new.self c.args.stack c.keep.ensures

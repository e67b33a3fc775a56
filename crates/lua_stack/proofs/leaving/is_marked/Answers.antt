use Rattle.std.proofs.Common.{◌∙◌}
use Rattle.lua_stack.proofs.PendingValues.{any_turned}
use Rattle.lua_stack.proofs.leaving.is_marked.Goals as goal

pub returns : goal.returns
returns c = c.contains.ensures.value ∙ any_turned c.args.register c.args.marks.now

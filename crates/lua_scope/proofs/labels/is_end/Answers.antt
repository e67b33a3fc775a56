use Rattle.std.proofs.Common.{sym}
use Rattle.lua_scope.proofs.labels.is_end.Goals as goal

pub returns : goal.returns
returns c = sym (c.requires c.args.start)

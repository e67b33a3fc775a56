use Rattle.std.proofs.Common.{sym, ◌∙◌}
use Rattle.lua_scope.proofs.Lookups.{missing_in}
use Rattle.lua_scope.proofs.labels.IndexedBlock.find.Goals as goal

pub returns-in-None : goal.returns-in-None
returns-in-None c = missing_in c.args.text.now c.args.self.now (sym c.first.ensures ∙ c.in-None.is)

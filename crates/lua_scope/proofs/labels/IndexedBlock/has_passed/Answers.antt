use Rattle.std.proofs.Common.{sym, ◌∙◌}
use Rattle.lua_scope.proofs.Lookups.{passed_some, passed_none}
use Rattle.lua_scope.proofs.labels.IndexedBlock.has_passed.Goals as goal

pub returns-in-Some : goal.returns-in-Some
returns-in-Some c = passed_some c.args.text.now c.self.inside.place c.args.self.now c.in-Some.label c.self.view_is (sym c.first.ensures ∙ c.in-Some.is)

pub returns-in-None : goal.returns-in-None
returns-in-None c = passed_none c.args.text.now c.args.self.now (sym c.first.ensures ∙ c.in-None.is)

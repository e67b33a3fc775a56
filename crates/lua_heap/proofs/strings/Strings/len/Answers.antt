use Rattle.std.proofs.Common.{subst}
use Rattle.lua_heap.specs.Strings.{AreApart}
use Rattle.lua_heap.proofs.Finding.{apart}
use Rattle.lua_heap.proofs.strings.Strings.len.Goals as goal

pub returns-clause-apart : goal.returns-clause-apart
returns-clause-apart c = subst AreApart c.self.view_is (apart c.self.inside.contents.keys c.len.ensures.unique)

use Rattle.lua_meaning.specs.Opening.{primitives}
use Rattle.lua_meaning.specs.TreeMeaning.{trees}
use Rattle.lua_meaning.proofs.Runs.{meaning_cut}
use Rattle.lua_meaning.proofs.law.cuts_do_not_show.Goals as goal

pub returns : goal.returns
returns c = λ celling builds. meaning_cut (trees celling) (primitives builds)

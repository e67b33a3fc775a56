use Rattle.lua_meaning.specs.Opening.{primitives}
use Rattle.lua_meaning.specs.TreeMeaning.{trees}
use Rattle.lua_meaning.proofs.Runs.{meaning_once}
use Rattle.lua_meaning.proofs.law.meaning_is_one.Goals as goal

pub returns : goal.returns
returns c = λ celling builds. meaning_once (trees celling) (primitives builds)

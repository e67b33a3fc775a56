use Rattle.lua_meaning.specs.Opening.{primitives}
use Rattle.lua_meaning.specs.TreeMeaning.{trees}
use Rattle.lua_meaning.proofs.Runs.{ended_within}
use Rattle.lua_meaning.proofs.law.ended_stays.Goals as goal

pub returns : goal.returns
returns c = λ celling builds. ended_within (trees celling) (primitives builds)

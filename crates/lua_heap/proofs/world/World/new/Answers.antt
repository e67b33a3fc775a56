use Rattle.std.proofs.Common.{rules}
use Rattle.lua_heap.specs.Opening.{first_texts}
use Rattle.lua_heap.proofs.world.World.new.Goals as goal

pub returns-clause-strings : goal.returns-clause-strings
unfolding first_texts
returns-clause-strings c = search rules

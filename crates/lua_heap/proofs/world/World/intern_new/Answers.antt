use Rattle.std.proofs.Common.{rules}
use Rattle.lua_heap.proofs.Growing.{interns}
use Rattle.lua_heap.proofs.world.World.intern_new.Goals as goal

pub returns-clause-interned : goal.returns-clause-interned
returns-clause-interned c = interns _ _ _ (search rules)

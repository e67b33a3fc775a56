use Rattle.lua_heap.proofs.Opened.{opened_sound}
use Rattle.lua_heap.proofs.law.new_worlds_are_sound.Goals as goal

pub returns : goal.returns
returns c primitives fuel = opened_sound primitives fuel

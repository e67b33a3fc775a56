use Rattle.lua_heap.proofs.Numbered.{checked_there}
use Rattle.lua_heap.proofs.law.checked_code_is_there.Goals as goal

pub returns : goal.returns
returns c ps n h = checked_there ps n h

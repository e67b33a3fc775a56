use Rattle.lua_heap.proofs.Reading.{strings_there}
use Rattle.lua_heap.proofs.law.strings_are_there.Goals as goal

pub returns : goal.returns
returns c z texts id h = strings_there z texts id h

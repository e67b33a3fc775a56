use Rattle.lua_heap.proofs.Equal.{alike}
use Rattle.lua_heap.proofs.law.equality_is_raw.Goals as goal

pub returns : goal.returns
returns c texts a s v w = alike texts a s v w

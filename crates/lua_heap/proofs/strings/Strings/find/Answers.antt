use Rattle.lua_heap.proofs.Recalled.{found_so}
use Rattle.lua_heap.proofs.strings.Strings.find.Goals as goal

pub returns-in-Some-clause-there : goal.returns-in-Some-clause-there
returns-in-Some-clause-there c = found_so c.args.bytes.now c.args.self.now c.in-Some.id.0 c.in-Some.ensures

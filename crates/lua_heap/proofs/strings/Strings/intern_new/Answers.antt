use Rattle.lua_heap.proofs.Recalled.{there_already}
use Rattle.lua_heap.proofs.strings.Strings.intern_new.Goals as goal

pub returns-in-Some-clause-added : goal.returns-in-Some-clause-added
returns-in-Some-clause-added c = there_already c.args.bytes.now c.args.self.now c.in-Some.id.0 c.in-Some.ensures

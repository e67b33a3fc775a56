use Rattle.std.proofs.Common.{List}
use Rattle.code_core.specs.Prototype.{Prototype}
use Rattle.lua_heap.specs.Codes.{functions, prototype_at}
use Rattle.lua_heap.proofs.Numbered.{prototype_there}
use Rattle.lua_heap.proofs.world.World.code.Goals as goal

pub returns : goal.returns
returns c =
    let ps : List Prototype = functions c.args.self.now.codes in
    c.requires.codes.each c.args.id.0 (prototype_at ps c.args.id.0) c.get.result.now (prototype_there ps c.args.id.0 c.requires.there) c.get.ensures

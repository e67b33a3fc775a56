use Rattle.std.proofs.Common.{ap}
use Rattle.lua_scope.specs.declared.labels.BlockPlace.{BlockPlace}
use Rattle.lua_scope.specs.Blocks.{moved}
use Rattle.lua_scope.proofs.labels.IndexedBlock.move_to.Goals as goal

pub returns : goal.returns
returns c = ap (λ (block : BlockPlace). moved block c.args.before c.args.behind) c.self.view_is

use Rattle.std.proofs.Common.{refl}
use Rattle.lua_stack.proofs.Tops.{on_top}
use Rattle.lua_stack.proofs.stack.Stack.opened.Goals as goal

pub returns : goal.returns
returns c = on_top c.self.inside c.args.self.now _ c.self.view_is c.self.invariant.0 (λ f. refl)

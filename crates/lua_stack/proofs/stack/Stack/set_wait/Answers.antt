use Rattle.std.proofs.Common.{refl}
use Rattle.lua_stack.proofs.Tops.{retop}
use Rattle.lua_stack.proofs.stack.Stack.set_wait.Goals as goal

pub returns : goal.returns
returns c = retop c.self.inside c.args.self.now _ _ _ _ _ c.self.view_is c.self.invariant.0 c.requires refl refl refl refl (λ f z. refl)

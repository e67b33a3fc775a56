use Rattle.std.proofs.Common.{refl}
use Rattle.lua_saving.proofs.roots.roots_of.Goals as goal

pub returns : goal.returns
returns c = λ fuel. rw (c.main_value.ensures fuel, c.metatable_value.ensures fuel, c.depth_value.ensures fuel) refl

use Rattle.std.proofs.Common.{Some}
use Rattle.lua_stack.specs.declared.frame.Kind.TheVariants.{Closing}
use Rattle.lua_stack.proofs.ClosingTop.{closing_open, error_replaced, replaced_stands}
use Rattle.lua_stack.proofs.stack.Stack.set_error.Goals as goal

pub invariant_of-self : goal.invariant_of-self
invariant_of-self c = (
  replaced_stands c.self.inside c.args.self.now c.self.view_is c.self.invariant.0 c.requires (Some c.args.error),
  closing_open c.self.inside c.args.self.now c.self.view_is c.self.invariant.0 c.requires (Closing (Some c.args.error)) c.self.inside.top.window c.self.invariant.1,
)

pub returns-clause-frames : goal.returns-clause-frames
returns-clause-frames c = error_replaced c.self.inside c.args.self.now c.self.view_is c.self.invariant.0 c.requires (Some c.args.error)

use Rattle.lua_stack.proofs.Pushed.{pushed_stands, pushed_open}
use Rattle.lua_stack.proofs.stack.Stack.push.Goals as goal

pub invariant_of-self-2 : goal.invariant_of-self-2
invariant_of-self-2 c = (
  pushed_stands c.self.inside _ c.args.kind _ c.self.invariant.0 c.in_ok-push_top.ensures.ok c.requires c.behind-self-inside.ensures,
  pushed_open c.self.inside _ c.behind-self-inside.result c.self.invariant.1 c.in_ok-push_top.ensures.ok,
)

use Rattle.std.proofs.Common.{refl}
use Rattle.lua_stack.proofs.Own.{cut_open, resized_stands, room_in, top_ended}
use Rattle.lua_stack.proofs.stack.Stack.end_list.Goals as goal

pub invariant_of-self : goal.invariant_of-self
invariant_of-self c = (
  resized_stands c.self.inside c.self.inside.values.items c.args.stack c.self.invariant.0 refl (room_in c.self.inside c.args.self.now c.args.stack c.self.view_is c.self.invariant.0 c.requires.there),
  cut_open c.self.inside c.args.self.now c.args.stack c.self.view_is c.self.invariant.0 c.self.invariant.1 c.requires.there c.requires.closed,
)

pub returns : goal.returns
returns c = top_ended c.self.inside c.args.self.now _ c.args.stack c.self.view_is c.self.invariant.0 c.requires.there refl

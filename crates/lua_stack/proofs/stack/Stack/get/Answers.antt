use Rattle.std.proofs.Common.{rules, ◌≡◌, Some}
use Rattle.std.specs.Prelude.{slice_get}
use Rattle.lua_stack.proofs.Own.{got}
use Rattle.lua_stack.proofs.stack.Stack.get.Goals as goal

pub returns : goal.returns
returns c =
    let g : slice_get c.self.inside.values.items c.place_of-at.result ≡ Some c.item_at.result = search rules in
    got c.self.inside c.args.self.now c.args.register c.place_of-at.result c.item_at.result c.self.view_is c.self.invariant.0 c.requires c.place_of-at.ensures g

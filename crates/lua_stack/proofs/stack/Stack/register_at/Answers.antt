use Rattle.std.proofs.Common.{rules, ◌≡◌, Some}
use Rattle.std.specs.Prelude.{slice_get}
use Rattle.lua_stack.specs.View.{window_at}
use Rattle.lua_stack.proofs.Reached.{frame_listed, place_listed, register_read, window_listed}
use Rattle.lua_stack.proofs.stack.Stack.register_at.Goals as goal

pub register_place-at-requires : goal.register_place-at-requires
register_place-at-requires c = record { there = frame_listed c.self.inside c.args.self.now c.args.frame c.args.register c.self.view_is c.self.invariant.0 c.self.invariant.1 c.requires c.deref.result.now c.deref.ensures.value; inside = place_listed c.self.inside c.args.self.now c.args.frame c.args.register c.self.view_is c.self.invariant.0 c.self.invariant.1 c.requires c.deref.result.now c.deref.ensures.value c.len-room.result (search rules) }

pub returns : goal.returns
returns c =
    let g : slice_get c.self.inside.values.items c.register_place-at.result ≡ Some c.item_at.result = search rules in
    register_read c.self.inside c.args.self.now c.args.frame c.args.register c.register_place-at.result (window_at c.deref.result.now c.self.inside.top.window c.args.frame) c.item_at.result c.self.view_is c.self.invariant.0 c.self.invariant.1 c.requires
    (window_listed c.self.inside c.args.self.now c.args.frame c.args.register c.self.view_is c.self.invariant.0 c.self.invariant.1 c.requires c.deref.result.now c.deref.ensures.value) c.register_place-at.ensures.is g

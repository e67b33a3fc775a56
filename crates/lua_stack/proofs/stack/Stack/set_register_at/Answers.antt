use Rattle.std.proofs.Common.{rules, [], ◌∷◌, ap}
use Rattle.lua_stack.specs.View.{seen, window_at}
use Rattle.lua_stack.proofs.Reached.{frame_listed, place_listed, register_written, window_listed}
use Rattle.lua_stack.proofs.Own.{put_stands}
use Rattle.lua_stack.proofs.stack.Stack.set_register_at.Goals as goal

pub register_place-at-requires : goal.register_place-at-requires
register_place-at-requires c = record { there = frame_listed c.self.inside c.args.self.now c.args.frame c.args.register c.self.view_is c.self.invariant.0 c.self.invariant.1 c.requires c.deref.result.now c.deref.ensures.value; inside = place_listed c.self.inside c.args.self.now c.args.frame c.args.register c.self.view_is c.self.invariant.0 c.self.invariant.1 c.requires c.deref.result.now c.deref.ensures.value c.len-room.result (search rules) }

pub invariant_of-self : goal.invariant_of-self
invariant_of-self c = (put_stands c.self.inside (c.args.value ∷ []) c.register_place-at.result _ c.self.invariant.0 c.put_one.ensures, c.self.invariant.1)

pub returns : goal.returns
returns c =
    register_written c.self.inside c.args.self.now _ c.args.frame c.args.register c.register_place-at.result (window_at c.deref.result.now c.self.inside.top.window c.args.frame) c.args.value c.self.view_is c.self.invariant.0 c.self.invariant.1 c.requires
    (window_listed c.self.inside c.args.self.now c.args.frame c.args.register c.self.view_is c.self.invariant.0 c.self.invariant.1 c.requires c.deref.result.now c.deref.ensures.value) c.register_place-at.ensures.is
    (ap (λ xs. seen xs c.self.inside.pending.items c.self.inside.below.items c.self.inside.top c.self.inside.open_cells.items) c.put_one.ensures)

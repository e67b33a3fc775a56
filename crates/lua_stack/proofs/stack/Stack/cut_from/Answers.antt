use Rattle.std.proofs.Common.{◌-◌, length, ap, ◌∙◌, arith}
use Rattle.lua_stack.specs.View.{seen, blank}
use Rattle.lua_stack.proofs.Parts.{length_put_all}
use Rattle.lua_stack.proofs.Own.{cut_open, resized, resized_stands, room_in, place_in, top_cut}
use Rattle.lua_stack.proofs.stack.Stack.cut_from.Goals as goal

pub clear-requires : goal.clear-requires
clear-requires c =
    let k = place_in c.self.inside c.args.self.now c.args.stack c.self.view_is c.self.invariant.0 c.requires.there in
    let e = c.place_of-from.ensures in
    let w = c.requires.within in
    omega (arith, k, e, w)

pub invariant_of-self : goal.invariant_of-self
invariant_of-self c = (
  resized_stands c.self.inside _ c.args.stack c.self.invariant.0
      (ap length c.clear.ensures ∙ length_put_all (blank (c.args.stack - c.args.register)) c.self.inside.values.items c.place_of-from.result)
      (room_in c.self.inside c.args.self.now c.args.stack c.self.view_is c.self.invariant.0 c.requires.there),
  cut_open c.self.inside c.args.self.now c.args.stack c.self.view_is c.self.invariant.0 c.self.invariant.1 c.requires.there c.requires.closed,
)

pub returns : goal.returns
returns c =
    top_cut c.self.inside c.args.self.now _ c.args.register c.args.stack c.place_of-from.result c.self.view_is c.self.invariant.0 c.requires.there c.requires.within c.place_of-from.ensures
    (ap (λ xs. seen xs c.self.inside.pending.items c.self.inside.below.items (resized c.self.inside.top c.args.stack) c.self.inside.open_cells.items) c.clear.ensures)

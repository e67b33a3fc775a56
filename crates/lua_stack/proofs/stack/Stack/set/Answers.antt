use Rattle.std.proofs.Common.{[], ◌∷◌, ap}
use Rattle.lua_stack.specs.View.{seen}
use Rattle.lua_stack.proofs.Own.{put_at_most, top_put, put_stands}
use Rattle.lua_stack.proofs.stack.Stack.set.Goals as goal

pub put_one-requires : goal.put_one-requires
put_one-requires c = put_at_most c.self.inside c.args.self.now c.args.register 1 c.place_of-at.result c.self.view_is c.self.invariant.0 c.requires c.place_of-at.ensures

pub invariant_of-self : goal.invariant_of-self
invariant_of-self c = (put_stands c.self.inside (c.args.value ∷ []) c.place_of-at.result _ c.self.invariant.0 c.put_one.ensures, c.self.invariant.1)

pub returns : goal.returns
returns c =
    top_put c.self.inside c.args.self.now _ (c.args.value ∷ []) c.args.register c.place_of-at.result c.self.view_is c.self.invariant.0 c.requires c.place_of-at.ensures
    (ap (λ xs. seen xs c.self.inside.pending.items c.self.inside.below.items c.self.inside.top c.self.inside.open_cells.items) c.put_one.ensures)

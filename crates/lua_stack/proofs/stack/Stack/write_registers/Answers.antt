use Rattle.std.proofs.Common.{length, ap}
use Rattle.lua_stack.specs.View.{seen}
use Rattle.lua_stack.proofs.Own.{put_at_most, top_put, put_stands}
use Rattle.lua_stack.proofs.stack.Stack.write_registers.Goals as goal

pub put-requires : goal.put-requires
put-requires c = put_at_most c.self.inside c.args.self.now c.args.at (length c.args.values.now) c.place_of-to.result c.self.view_is c.self.invariant.0 c.requires c.place_of-to.ensures

pub invariant_of-self : goal.invariant_of-self
invariant_of-self c = (put_stands c.self.inside c.args.values.now c.place_of-to.result _ c.self.invariant.0 c.put.ensures, c.self.invariant.1)

pub returns : goal.returns
returns c =
    top_put c.self.inside c.args.self.now _ c.args.values.now c.args.at c.place_of-to.result c.self.view_is c.self.invariant.0 c.requires c.place_of-to.ensures
    (ap (λ xs. seen xs c.self.inside.pending.items c.self.inside.below.items c.self.inside.top c.self.inside.open_cells.items) c.put.ensures)

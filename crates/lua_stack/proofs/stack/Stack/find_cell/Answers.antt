use Rattle.std.proofs.Common.{rules, ◌≡◌, length, subst, sym}
use Rattle.lua_stack.specs.View.{AreInOrder}
use Rattle.lua_stack.proofs.OpenCells.{found_is}
use Rattle.lua_stack.proofs.stack.Stack.find_cell.Goals as goal

pub found_in-requires : goal.found_in-requires
found_in-requires c = subst AreInOrder (sym c.deref.ensures.value) c.self.invariant.1.in_order

pub returns : goal.returns
returns c =
    let n : c.len.result ≡ length c.self.inside.below.items = search rules in
    found_is c.self.inside c.args.self.now c.args.register c.len.result c.deref.result.now c.found_in.result c.self.view_is c.self.invariant.0 c.found_in.ensures n c.deref.ensures.value

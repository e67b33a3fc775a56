use Rattle.std.proofs.Common.{rules, ◌≡◌, length, subst, sym}
use Rattle.lua_stack.specs.View.{AreInOrder}
use Rattle.lua_stack.proofs.OpenCells.{added_in, added_to}
use Rattle.lua_stack.proofs.Reached.{added_stands}
use Rattle.lua_stack.proofs.stack.Stack.add_cell.Goals as goal

pub count_below-at-requires : goal.count_below-at-requires
count_below-at-requires c = subst AreInOrder (sym c.deref.ensures.value) c.self.invariant.1.in_order

pub invariant_of-self-2 : goal.invariant_of-self-2
invariant_of-self-2 c =
    let n : c.len-frame.result ≡ length c.self.inside.below.items = search rules in
    let x = added_in c.self.inside c.args.self.now c.args.register c.len-frame.result c.count_below-at.result c.args.cell c.deref.result.now _ c.self.view_is c.self.invariant.0 c.self.invariant.1 n c.deref.ensures.value
    c.count_below-at.ensures.below c.count_below-at.ensures.first c.requires.free
    c.in_ok-insert.ensures.items in (
      c.self.invariant.0,
      added_stands c.self.inside c.args.self.now c.args.register c.len-frame.result c.args.cell _ c.self.view_is c.self.invariant.0 c.self.invariant.1 n x c.requires.room,
    )

pub returns-clause-cells : goal.returns-clause-cells
returns-clause-cells c =
    let n : c.len-frame.result ≡ length c.self.inside.below.items = search rules in
    let x = added_in c.self.inside c.args.self.now c.args.register c.len-frame.result c.count_below-at.result c.args.cell c.deref.result.now _ c.self.view_is c.self.invariant.0 c.self.invariant.1 n c.deref.ensures.value
    c.count_below-at.ensures.below c.count_below-at.ensures.first c.requires.free
    c.in_ok-insert.ensures.items in
    added_to c.self.inside c.args.self.now c.args.register c.len-frame.result c.args.cell _ c.self.view_is c.self.invariant.0 n x

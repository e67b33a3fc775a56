use Rattle.std.proofs.Common.{rules, ◌≡◌, true, false, length}
use Rattle.lua_stack.specs.View.{is_at}
use Rattle.lua_stack.proofs.OpenCells.{found_end, found_there, found_not}
use Rattle.lua_stack.proofs.cells.found_in.Goals as goal

pub returns-then-at-cells : goal.returns-then-at-cells
returns-then-at-cells c =
    let e : c.count_below-at.result ≡ length c.args.cells.now = search rules in
    found_end c.args.frame c.args.register c.count_below-at.result c.args.cells.now e c.count_below-at.ensures.below

pub returns-then-is_at : goal.returns-then-is_at
returns-then-is_at c =
    let t : true ≡ is_at c.args.frame c.args.register c.item_at-found.result = search rules in
    found_there c.args.frame c.args.register c.count_below-at.result c.args.cells.now c.item_at-found.result c.requires c.count_below-at.ensures.below c.count_below-at.ensures.first c.item_at-found.ensures t

pub returns : goal.returns
returns c =
    let f : false ≡ is_at c.args.frame c.args.register c.item_at-found.result = search rules in
    found_not c.args.frame c.args.register c.count_below-at.result c.args.cells.now c.item_at-found.result c.requires c.count_below-at.ensures.below c.count_below-at.ensures.first c.item_at-found.ensures f

use Rattle.std.proofs.Common.{rules, ◌≡◌, ◌-◌, ◌<◌, ◌≤◌, suc, true, false, length, arith}
use Rattle.lua_stack.specs.View.{stands_below}
use Rattle.lua_stack.proofs.OpenCells.{stop_before, first_before}
use Rattle.lua_stack.proofs.cells.count_below.Goals as goal

pub returns-then-stands_below-clause-below : goal.returns-then-stands_below-clause-below
returns-then-stands_below-clause-below c =
    let more : 0 < c.back.count = search rules in
    let e : suc (c.back.count - 1) ≡ c.back.count = omega (arith, more) in
    let t : true ≡ stands_below c.args.frame c.args.register c.item_at.result = search rules in
    stop_before c.args.frame c.args.register (c.back.count - 1) c.back.count c.args.cells.now c.item_at.result c.requires e c.item_at.ensures t

pub back-preserved : goal.back-preserved
back-preserved c =
    let most : c.back.count ≤ length c.args.cells.now = c.back.invariant.0 in
    let f : false ≡ stands_below c.args.frame c.args.register c.item_at.result = search rules in
    (omega (arith, most), first_before c.args.frame c.args.register (c.back.count - 1) c.args.cells.now c.item_at.result c.item_at.ensures f)

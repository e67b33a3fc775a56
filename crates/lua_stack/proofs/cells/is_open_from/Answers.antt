use Rattle.std.proofs.Common.{rules, ◌≡◌, ◌-◌, suc, length, sym, ◌∙◌, arith}
use Rattle.lua_stack.proofs.OpenCells.{none_taken, not_false}
use Rattle.lua_stack.proofs.cells.is_open_from.Goals as goal

pub returns : goal.returns
returns c h =
    let e : suc (length c.args.cells.now - 1) ≡ length c.args.cells.now = search (arith, rules) in
    none_taken c.args.frame c.args.register (length c.args.cells.now - 1) c.args.cells.now c.item_at.result c.requires e c.item_at.ensures (sym (not_false c.stands_below.result h) ∙ c.stands_below.ensures)

use Rattle.std.proofs.Common.{rules, ◌-◌, ◌<◌, ◌≤◌, length, arith}
use Rattle.lua_stack.proofs.Marks.{one_less}
use Rattle.lua_stack.proofs.pending.last_from.Goals as goal

pub back-preserved : goal.back-preserved
back-preserved c =
    let more : 0 < c.back.count = search rules in
    let l : c.item_at.result < c.args.register = search (arith, rules) in
    let most : c.back.count ≤ length c.args.marks.now = c.back.invariant.0 in
    (omega (arith, most), one_less c.args.register (c.back.count - 1) c.back.count c.item_at.result c.args.marks.now (omega (arith, more)) c.item_at.ensures l c.back.invariant.1)

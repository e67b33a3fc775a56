use Rattle.std.proofs.Common.{rules, ◌<◌, sym, ◌∙◌, arith}
use Rattle.lua_stack.proofs.Wiped.{wiped_stays, wiped_goes}
use Rattle.lua_stack.proofs.leaving.wipe.Goals as goal

pub loop-k-preserved-then-stays : goal.loop-k-preserved-then-stays
loop-k-preserved-then-stays c =
    let k : c.loop-k.k < c.args.size = search rules in
    let r = c.requires in
    wiped_stays _ c.args.base c.loop-k.k c.args.values.now.items c.loop-k.values.items (omega (arith, k, r)) c.loop-k.invariant (sym c.stays.ensures ∙ c.if-stays.true)

pub loop-k-preserved : goal.loop-k-preserved
loop-k-preserved c =
    let k : c.loop-k.k < c.args.size = search rules in
    let r = c.requires in
    wiped_goes _ c.args.base c.loop-k.k c.args.values.now.items c.loop-k.values.items (omega (arith, k, r)) c.loop-k.invariant (sym c.stays.ensures ∙ c.if-stays.false)

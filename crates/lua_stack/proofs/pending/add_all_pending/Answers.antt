use Rattle.std.proofs.Common.{length, arith}
use Rattle.lua_stack.proofs.PendingValues.{next_frame, stacked_at}
use Rattle.lua_stack.proofs.pending.add_all_pending.Goals as goal

pub add_pending-requires : goal.add_pending-requires
add_pending-requires c =
    let w = stacked_at (length c.args.values.now) (length c.args.pending.now) c.args.frames.now c.loop-k.k c.item_at.result c.requires c.item_at.ensures in
    let e = w.end in
    let k = w.kept in
    record { marks = (stacked_at (length c.args.values.now) (length c.args.pending.now) c.args.frames.now c.loop-k.k c.item_at.result c.requires c.item_at.ensures).marks_end; kept = omega (arith, e, k) }

pub loop-k-preserved : goal.loop-k-preserved
loop-k-preserved c =
    next_frame c.args.values.now c.args.pending.now c.args.frames.now c.loop-k.k c.item_at.result c.args.found.now.items c.loop-k.found.items c.add_pending.new.found.items c.item_at.ensures c.loop-k.invariant c.in_ok-add_pending.ensures

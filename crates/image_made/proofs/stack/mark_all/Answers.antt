use Rattle.std.proofs.Common.{◌<◌, ◌≤◌, length, arith, rules}
use Rattle.image_made.proofs.Tops.{none_marked, one_marked, all_marked, still_room, frame_registers}
use Rattle.image_made.proofs.stack.mark_all.Goals as goal

pub loop-at-init : goal.loop-at-init
loop-at-init c = record { marked = none_marked c.args.stack.now; room = c.requires }

pub mark_pending-requires : goal.mark_pending-requires
mark_pending-requires c =
    let less : c.number_at-register.result < c.args.size = search rules in
    frame_registers c.loop-at.stack c.args.size c.number_at-register.result c.loop-at.invariant.room less

pub loop-at-preserved : goal.loop-at-preserved
loop-at-preserved c = record {
  marked = one_marked c.args.stack.now c.loop-at.stack c.mark_pending.new.self c.args.pending.now c.loop-at.at c.number_at-register.result c.number_at-register.ensures c.loop-at.invariant.marked c.in_ok-mark_pending.ensures.ok;
  room = still_room c.loop-at.stack c.mark_pending.new.self c.args.size _ c.loop-at.invariant.room c.in_ok-mark_pending.ensures.ok;
}

pub returns : goal.returns
returns c =
    let ended : length c.args.pending.now ≤ c.loop-at.at = omega arith in
    all_marked c.args.stack.now c.loop-at.stack c.args.pending.now c.loop-at.at ended c.loop-at.invariant.marked

use Rattle.std.proofs.Common.{◌<◌, length, rules}
use Rattle.graph_core.proofs.Framed.{next_frame}
use Rattle.graph_core.proofs.walk.Walk.meet_frames.Goals as goal

pub loop-at-preserved : goal.loop-at-preserved
loop-at-preserved c =
    let less : c.loop-at.at < length c.args.stack.now.frames = search rules in
    next_frame c.args.self.now c.args.seen.now.keys c.loop-at.seen.keys c.meet_frame_at.new.seen.keys c.loop-at.at c.args.stack.now.frames less c.loop-at.invariant c.in_ok-meet_frame_at.ensures

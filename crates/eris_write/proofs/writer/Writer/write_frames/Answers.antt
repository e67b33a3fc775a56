use Rattle.std.proofs.Common.{◌<◌, List, length, subst, arith, rules}
use Rattle.std.proofs.lemmas.List.{take_all}
use Rattle.lua_stack.specs.Frames.{KeptFrame}
use Rattle.eris_write.specs.Writing.{Writes}
use Rattle.eris_write.proofs.Recorded.{frames_bytes, frames_fields, next_frame}
use Rattle.eris_write.proofs.writer.Writer.write_frames.Goals as goal

pub loop-at-preserved : goal.loop-at-preserved
loop-at-preserved c =
    let less : c.loop-at.at < length c.args.stack.now.frames = search rules in
    next_frame c.args.self.now c.args.stack.now.frames c.loop-at.at _ _ _ less c.loop-at.invariant c.in_ok-write_frame_at.ensures

pub returns : goal.returns
returns c =
    let t = c.loop-at-test.false in
    let e = c.len-at-end.ensures in
    let w = c.args.self.now in
    subst (λ (fs : List KeptFrame). Writes w c.args.out.now c.loop-at.out (frames_fields w fs) (frames_bytes w fs)) (take_all c.loop-at.at c.args.stack.now.frames (omega (arith, t, e))) c.loop-at.invariant

use Rattle.eris_write.proofs.Putting.{on_ok}
use Rattle.eris_write.proofs.Recorded.{dead_written, failed_is, running_written, normal_written}
use Rattle.std.proofs.Common.{subst}
use Rattle.eris_write.specs.Frames.{CoroutineStands}
use Rattle.eris_write.specs.Writing.{texts_in}
use Rattle.eris_write.proofs.writer.Writer.write_coroutine.Goals as goal

pub returns-in-Dead : goal.returns-in-Dead
returns-in-Dead c = on_ok c.put_byte.result c.put_byte.ensures (λ h. dead_written c.args.self.now c.args.coro.now _ _ c.in-Dead.is h)

pub returns-in-Running : goal.returns-in-Running
returns-in-Running c = on_ok c.put_byte-in-Running.result c.put_byte-in-Running.ensures (λ h. running_written c.args.self.now c.args.coro.now _ _ _ c.in-Running.is h)

pub returns-in-Normal : goal.returns-in-Normal
returns-in-Normal c = on_ok c.put_byte-in-Normal.result c.put_byte-in-Normal.ensures (λ h. normal_written c.args.self.now c.args.coro.now _ _ _ c.in-Normal.is h)

pub returns-in-Failed : goal.returns-in-Failed
returns-in-Failed c =
    on_ok c.write_failed.result c.write_failed.ensures
    (λ h. failed_is c.args.self.now c.args.coro.now c.in-Failed.error c.in-Failed.pending c.deref.result.now _ _ c.in-Failed.is c.deref.ensures.value h)

pub write_fresh-requires : goal.write_fresh-requires
write_fresh-requires c = subst (CoroutineStands (texts_in c.args.self.now)) c.in-Fresh.is c.requires

pub write_suspended-requires : goal.write_suspended-requires
write_suspended-requires c = subst (CoroutineStands (texts_in c.args.self.now)) c.in-Suspended.is c.requires

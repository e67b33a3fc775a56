use Rattle.std.proofs.Common.{sym, subst}
use Rattle.image_core.specs.Records.{wait_fields}
use Rattle.lua_stack.specs.declared.frame.Wait.{Wait}
use Rattle.lua_stack.specs.Frames.{wait_of}
use Rattle.eris_write.specs.Frames.{WaitStands, wait_bytes}
use Rattle.eris_write.specs.Writing.{Writes, read_in, texts_in}
use Rattle.eris_write.proofs.Putting.{on_ok}
use Rattle.eris_write.proofs.writer.Writer.write_wait.Goals as goal

pub put_left-requires : goal.put_left-requires
put_left-requires c = subst (WaitStands (texts_in c.args.self.now)) c.in-ForConcat.is c.requires

pub write-requires : goal.write-requires
write-requires c = subst (WaitStands (texts_in c.args.self.now)) c.in-Leaving.is c.requires

pub returns-in-ForConcat : goal.returns-in-ForConcat
returns-in-ForConcat c =
    let w = c.args.self.now in
    on_ok c.put_left.result c.put_left.ensures
    (λ h. subst (λ (t : Wait). Writes w c.args.out.now c.put_left.new.out (wait_fields (wait_of (read_in w) t)) (wait_bytes w t)) (sym c.in-ForConcat.is) h)

pub returns-in-Returning : goal.returns-in-Returning
returns-in-Returning c =
    let w = c.args.self.now in
    on_ok c.put_word.result c.put_word.ensures
    (λ h. subst (λ (t : Wait). Writes w c.args.out.now c.put_word.new.self (wait_fields (wait_of (read_in w) t)) (wait_bytes w t)) (sym c.in-Returning.is) h)

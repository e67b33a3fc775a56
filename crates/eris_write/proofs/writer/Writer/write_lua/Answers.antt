use Rattle.lua_stack.specs.Reading.{viewed_lua}
use Rattle.eris_write.specs.Writing.{naming_in, read_in}
use Rattle.eris_write.proofs.Putting.{on_ok}
use Rattle.eris_write.proofs.Recorded.{lua_written}
use Rattle.eris_write.proofs.writer.Writer.write_lua.Goals as goal

pub returns : goal.returns
returns c =
    on_ok c.write_wait.result c.write_wait.ensures
    (λ h. lua_written c.args.self.now (viewed_lua c.args.view) c.wait_byte.result _ _ _ _ _ _ _ _ _ (λ R. c.wait_byte.ensures R (naming_in c.args.self.now) (read_in c.args.self.now)) c.requires.opened c.in_ok-put_byte.ensures c.in_ok-write.ensures c.in_ok-put_word.ensures
    c.in_ok-put_byte-2.ensures c.in_ok-write_list.ensures c.in_ok-write_registers.ensures c.in_ok-put_numbers.ensures h)

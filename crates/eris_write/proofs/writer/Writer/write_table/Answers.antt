use Rattle.std.specs.Option.{option_map}
use Rattle.table_core.specs.declared.value.TableId.{TableId}
use Rattle.eris_write.specs.Writing.{texts_in}
use Rattle.eris_write.proofs.Putting.{on_ok}
use Rattle.eris_write.proofs.Written.{metatable_text, table_written}
use Rattle.eris_write.proofs.writer.Writer.write_table.Goals as goal

pub write-requires : goal.write-requires
write-requires c = metatable_text (texts_in c.args.self.now) c.metatable_of.result (option_map (λ (id : TableId). id.0) c.metatable.result) (c.metatable_of.ensures (texts_in c.args.self.now))

pub returns : goal.returns
returns c =
    on_ok c.write.result c.write.ensures
    (λ m. table_written c.args.self.now c.args.table.now c.metatable.result c.metatable_of.result c.rows.result _ _ _ _ c.rows.ensures.len c.metatable.ensures (c.metatable_of.ensures (texts_in c.args.self.now))
    c.in_ok-put_word.ensures c.in_ok-write_rows.ensures m)

use Rattle.std.proofs.Common.{refl, sym, ap, None, [], arith}
use Rattle.image_core.specs.Image.{Record, no_record}
use Rattle.image_core.specs.Records.{record_of_table, table_fields}
use Rattle.image_bytes.specs.Bytes.{Reader, record_format, table_format}
use Rattle.lua_heap.specs.Plain.{table}
use Rattle.eris_write.specs.Writing.{naming_in, texts_in}
use Rattle.eris_write.proofs.Readable.{table_readable}
use Rattle.eris_write.proofs.Spelled.{no_table_spelled, record_is}
use Rattle.eris_write.proofs.Putting.{on_ok, writes_as, puts_as, puts_nothing}
use Rattle.eris_write.proofs.Recorded.{there_written, none_written}
use Rattle.eris_write.proofs.writer.Writer.write_table_at.Goals as goal

pub write_table-requires : goal.write_table-requires
write_table-requires c = table_readable c.strings_are_there.ensures c.args.self.now.world.now c.requires c.args.number c.get.result.now c.get.ensures

pub returns : goal.returns
returns c =
    let w = c.args.self.now in
    let t = table (texts_in w) c.get.result.now in
    on_ok c.write_table.result c.write_table.ensures
    (λ h fuel. there_written w table_fields (record_of_table (naming_in w)) (table (texts_in w)) w.world.now.tables.objects c.args.number c.get.result.now _ _ (λ (r : Record) (R : Reader). (record_format R 1).spell r) c.get.ensures
    (writes_as w _ _ (table_fields t) (table_fields t) (λ R. (table_format R).spell (record_of_table (naming_in w) t)) (λ R. (record_format R 1).spell (record_of_table (naming_in w) t)) refl (λ R. ap (λ F. F.spell (record_of_table (naming_in w) t)) (sym (record_is R).0)) h))

pub returns-then-number-len : goal.returns-then-number-len
returns-then-number-len c fuel =
    let w = c.args.self.now in
    let e = c.len.ensures in
    let t = c.if-number-len.true in
    none_written w table_fields (record_of_table (naming_in w)) (table (texts_in w)) w.world.now.tables.objects c.args.number _ _ (λ (r : Record) (R : Reader). (record_format R 1).spell r) (omega (arith, e, t)) (puts_as c.args.out.now c.args.out.now None (λ _. []) (λ R. (record_format R 1).spell no_record) (λ R. sym (no_table_spelled R)) (puts_nothing c.args.out.now))

use Rattle.std.proofs.Common.{refl, sym, ap, None, [], ◌∷◌, arith}
use Rattle.image_core.specs.Image.{Record, no_record}
use Rattle.image_core.specs.Records.{coroutine_fields, record_of_coroutine}
use Rattle.image_bytes.specs.Bytes.{Reader, record_format, coroutine_format}
use Rattle.lua_heap.specs.Plain.{coroutine}
use Rattle.eris_write.specs.Writing.{naming_in, texts_in}
use Rattle.eris_write.proofs.Readable.{coroutine_readable}
use Rattle.eris_write.proofs.Spelled.{none_spelled, record_is}
use Rattle.eris_write.proofs.Putting.{on_ok, writes_as, puts_as}
use Rattle.eris_write.proofs.Recorded.{there_written, none_written}
use Rattle.eris_write.proofs.writer.Writer.write_coroutine_at.Goals as goal

pub write_coroutine-requires : goal.write_coroutine-requires
write_coroutine-requires c = coroutine_readable c.strings_are_there.ensures c.args.self.now.world.now c.requires c.args.number c.get.result.now c.get.ensures

pub returns : goal.returns
returns c =
    let w = c.args.self.now in
    let H = coroutine (texts_in w) in
    let f = H c.get.result.now in
    on_ok c.write_coroutine.result c.write_coroutine.ensures
    (λ h fuel. there_written w coroutine_fields (record_of_coroutine (naming_in w)) H w.world.now.coros.objects c.args.number c.get.result.now _ _ (λ (r : Record) (R : Reader). (record_format R 4).spell r) c.get.ensures
    (writes_as w _ _ (coroutine_fields f) (coroutine_fields f) (λ R. (coroutine_format R).spell (record_of_coroutine (naming_in w) f)) (λ R. (record_format R 4).spell (record_of_coroutine (naming_in w) f)) refl (λ R. ap (λ F. F.spell (record_of_coroutine (naming_in w) f)) (sym (record_is R).3)) h))

pub returns-then-number-len : goal.returns-then-number-len
returns-then-number-len c =
    let w = c.args.self.now in
    let e = c.len.ensures in
    let t = c.if-number-len.true in
    on_ok c.put_byte.result c.put_byte.ensures
    (λ h fuel. none_written w coroutine_fields (record_of_coroutine (naming_in w)) (coroutine (texts_in w)) w.world.now.coros.objects c.args.number _ _ (λ (r : Record) (R : Reader). (record_format R 4).spell r) (omega (arith, e, t)) (puts_as _ _ None (λ _. 255 ∷ []) (λ R. (record_format R 4).spell no_record) (λ R. sym (none_spelled R)) h))

use Rattle.std.proofs.Common.{refl, sym, ap, map, None, [], arith}
use Rattle.image_core.specs.Image.{Record, no_record}
use Rattle.image_core.specs.Records.{of_cell, record_of_function}
use Rattle.machine_core.specs.World.{Function}
use Rattle.image_bytes.specs.Bytes.{Reader, record_format, function_format}
use Rattle.lua_heap.specs.Codes.{functions}
use Rattle.lua_heap.specs.Plain.{function}
use Rattle.eris_write.specs.Writing.{naming_in}
use Rattle.eris_write.proofs.Readable.{function_whole}
use Rattle.eris_write.proofs.Spelled.{no_function_spelled, record_is}
use Rattle.eris_write.proofs.Putting.{on_ok, writes_as, puts_as, puts_nothing}
use Rattle.eris_write.proofs.Recorded.{there_written, none_written}
use Rattle.eris_write.proofs.writer.Writer.write_function_at.Goals as goal

pub write_function-requires : goal.write_function-requires
write_function-requires c = function_whole c.args.self.now.world.now c.requires c.args.number c.get.result.now c.get.ensures

pub returns : goal.returns
returns c =
    let w = c.args.self.now in
    let H = function (functions w.world.now.codes) in
    let f = H c.get.result.now in
    on_ok c.write_function.result c.write_function.ensures
    (λ h fuel. there_written w (λ (f : Function). map of_cell f.cells) (record_of_function (naming_in w)) H w.world.now.funcs.objects c.args.number c.get.result.now _ _ (λ (r : Record) (R : Reader). (record_format R 2).spell r) c.get.ensures
    (writes_as w _ _ (map of_cell f.cells) (map of_cell f.cells) (λ R. (function_format R).spell (record_of_function (naming_in w) f)) (λ R. (record_format R 2).spell (record_of_function (naming_in w) f)) refl (λ R. ap (λ F. F.spell (record_of_function (naming_in w) f)) (sym (record_is R).1)) h))

pub returns-then-number-len : goal.returns-then-number-len
returns-then-number-len c fuel =
    let w = c.args.self.now in
    let e = c.len.ensures in
    let t = c.if-number-len.true in
    none_written w (λ (f : Function). map of_cell f.cells) (record_of_function (naming_in w)) (function (functions w.world.now.codes)) w.world.now.funcs.objects c.args.number _ _ (λ (r : Record) (R : Reader). (record_format R 2).spell r) (omega (arith, e, t)) (puts_as c.args.out.now c.args.out.now None (λ _. []) (λ R. (record_format R 2).spell no_record) (λ R. sym (no_function_spelled R)) (puts_nothing c.args.out.now))

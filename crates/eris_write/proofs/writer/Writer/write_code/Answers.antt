use Rattle.std.proofs.Common.{None, ap, ◌∙◌}
use Rattle.chunk_format.specs.Spelling as code
use Rattle.lua_heap.specs.Codes.{functions, prototype_at}
use Rattle.eris_write.proofs.Readable.{code_found, code_writable}
use Rattle.eris_write.proofs.Putting.{on_ok}
use Rattle.eris_write.proofs.Recorded.{code_written}
use Rattle.eris_write.proofs.writer.Writer.write_code.Goals as goal

pub proto-requires : goal.proto-requires
proto-requires c = c.checked_code_is_there.ensures (functions c.args.self.now.world.now.codes) c.args.code.0 c.requires

pub write_function-requires : goal.write_function-requires
write_function-requires c = code_writable (functions c.args.self.now.world.now.codes) c.args.code.0 c.proto.result.now c.proto.ensures c.requires

pub returns : goal.returns
returns c =
    let ps = functions c.args.self.now.world.now.codes in
    on_ok c.put.result c.put.ensures
    (λ h. code_written _ _ _ (prototype_at ps c.args.code.0) c.as_slice-text.result.now
    (c.as_slice-text.ensures.value ∙ (c.in_ok-bytes.ensures.spelling ∙ ap (code.function None) (code_found ps c.args.code.0 c.proto.result.now c.proto.ensures))) c.in_ok-put_word.ensures h)

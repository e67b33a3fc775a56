use Rattle.std.proofs.Common.{None, ◌∷◌, ◌++◌, length, ap, sym}
use Rattle.byteorder.specs.Endian.{little_bytes}
use Rattle.lua_heap.specs.Reading.{text_of, text_or}
use Rattle.eris_write.specs.Writing.{texts_in}
use Rattle.eris_write.proofs.Putting.{on_ok, puts_is}
use Rattle.eris_write.proofs.writer.Writer.write_string.Goals as goal

pub returns : goal.returns
returns c =
    let text = text_of (texts_in c.args.self.now) c.args.id.0 in
    let bytes = c.bytes.result.now in
    on_ok c.put_text_item.result c.put_text_item.ensures
    (λ h. puts_is _ _ None (4 ∷ little_bytes 4 (length bytes) ++ bytes) (4 ∷ little_bytes 4 (length text) ++ text) (ap (λ l. 4 ∷ little_bytes 4 (length l) ++ l) (sym (ap (text_or c.args.id.0) c.bytes.ensures))) h)

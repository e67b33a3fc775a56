use Rattle.std.proofs.Common.{length, refl}
use Rattle.eris_write.proofs.Imaged.{drawn}
use Rattle.eris_write.proofs.writer.Writer.write_image.Goals as goal

pub returns : goal.returns
returns c fuel =
    drawn c.args.self.now c.args.roots.now fuel (length c.args.roots.now) _ _ _ _ _ _ _ _ c.new-out.ensures.bytes c.new-out.ensures.refusal refl refl refl c.in_ok-put.ensures c.in_ok-put_sorts.ensures
    c.in_ok-put_byte.ensures c.in_ok-write_all.ensures (c.in_ok-write_records.ensures fuel)

use Rattle.std.proofs.Common.{None, [], ◌∷◌, ◌++◌, ap}
use Rattle.byteorder.specs.Endian.{little_bytes}
use Rattle.graph_core.specs.Objects.{part_of}
use Rattle.eris_write.specs.Writing.{naming_in, number_bytes}
use Rattle.eris_write.proofs.Putting.{on_ok, puts_both, puts_is}
use Rattle.eris_write.proofs.writer.Writer.write_number.Goals as goal

pub returns : goal.returns
returns c =
    on_ok c.put_word.result c.put_word.ensures
    (λ h. puts_is _ _ None ((5 ∷ []) ++ little_bytes 4 c.number.result) (number_bytes (naming_in c.args.self.now) (part_of c.args.sort c.args.number)) (ap (λ n. 5 ∷ little_bytes 4 n) c.number.ensures) (puts_both c.in_ok-put_byte.ensures h))

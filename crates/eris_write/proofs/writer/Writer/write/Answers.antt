use Rattle.std.proofs.Common.{[], ◌∷◌, ap, sym, ◌∙◌}
use Rattle.image_core.specs.Image.{environment, permanent}
use Rattle.image_core.specs.Records.{sort_of}
use Rattle.graph_core.specs.Permanents.{key_read, permanents}
use Rattle.eris_write.specs.Output.{key_bytes}
use Rattle.eris_write.specs.Writing.{kind_tag, read_in, texts_in}
use Rattle.eris_write.proofs.Spelled.{environment_spelled, key_spelled, permanent_spelled}
use Rattle.eris_write.proofs.Putting.{on_ok}
use Rattle.eris_write.proofs.Written.{environment_named, permanent_named, not_named, named_written, unnamed_written}
use Rattle.eris_write.proofs.writer.Writer.write.Goals as goal

pub returns-then-is_table : goal.returns-then-is_table
returns-then-is_table c =
    let w = c.args.self.now in
    let v = c.args.value in
    on_ok c.put_byte.result c.put_byte.ensures
    (λ h. named_written w v _ _ environment (λ _. 9 ∷ []) (environment_named w.world.now.prelude.env.0 (permanents w.permanents.now) (read_in w v) (sym c.if-is_table.true ∙ c.is_table.ensures (texts_in w))) environment_spelled h)

pub returns-in-Some : goal.returns-in-Some
returns-in-Some c =
    let w = c.args.self.now in
    let v = c.args.value in
    let k = c.in-Some.key.now in
    on_ok c.put_permanent.result c.put_permanent.ensures
    (λ h. named_written w v _ _ (permanent (sort_of (read_in w v)) (key_read k)) (λ _. kind_tag (sort_of (read_in w v)) ∷ key_bytes k)
    (permanent_named w.world.now.prelude.env.0 (permanents w.permanents.now) (read_in w v) (key_read k) (sym c.if-is_table.false ∙ c.is_table.ensures (texts_in w)) (c.in-Some.ensures (texts_in w)))
    (λ R. permanent_spelled R (sort_of (read_in w v)) (key_read k) ∙ ap (λ l. kind_tag (sort_of (read_in w v)) ∷ l) (key_spelled k)) (h (texts_in w)))

pub returns-in-None : goal.returns-in-None
returns-in-None c =
    let w = c.args.self.now in
    let v = c.args.value in
    on_ok c.write_unnamed.result c.write_unnamed.ensures
    (λ h. unnamed_written w v _ _ (not_named w.world.now.prelude.env.0 (permanents w.permanents.now) (read_in w v) (sym c.if-is_table.false ∙ c.is_table.ensures (texts_in w)) (c.in-None.ensures (texts_in w))) h)

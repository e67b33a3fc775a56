use Rattle.std.proofs.Common.{subst}
use Rattle.eris_write.specs.Output.{Puts}
use Rattle.eris_write.specs.Writing.{naming_in, read_in, unnamed_bytes}
use Rattle.eris_write.proofs.Putting.{on_ok, puts_then}
use Rattle.eris_write.proofs.writer.Writer.write_unnamed.Goals as goal

pub returns : goal.returns
returns c =
    on_ok c.write_itself.result c.write_itself.ensures
    (λ h. subst (λ r. Puts c.args.out.now c.write_itself.new.out r (λ _. unnamed_bytes (naming_in c.args.self.now) (read_in c.args.self.now c.args.value))) c.refusal.ensures (puts_then c.refuse.ensures h))

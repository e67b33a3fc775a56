use Rattle.std.proofs.Common.{ℕ, Option, ap, ◌∙◌}
use Rattle.std.specs.Prelude.{unwrap_or}
use Rattle.eris_write.proofs.Numbered.{place_is}
use Rattle.eris_write.proofs.writer.Writer.number.Goals as goal

pub returns-in-Some : goal.returns-in-Some
returns-in-Some c = ap (λ (o : Option ℕ). unwrap_or o 0) (c.in-Some.ensures.index ∙ place_is c.args.self.now.numbering.now.order.keys c.args.object)

pub returns-in-None : goal.returns-in-None
returns-in-None c = ap (λ (o : Option ℕ). unwrap_or o 0) (c.in-None.ensures.index ∙ place_is c.args.self.now.numbering.now.order.keys c.args.object)

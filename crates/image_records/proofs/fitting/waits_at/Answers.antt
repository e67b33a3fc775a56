use Rattle.std.proofs.Common.{sym, ap, ◌∙◌}
use Rattle.machine_sound.specs.Sound.{waits_at}
use Rattle.image_records.specs.Views.{wait}
use Rattle.image_records.proofs.fitting.waits_at.Goals as goal

pub returns-in-Returning : goal.returns-in-Returning
returns-in-Returning c = c.returns.ensures c.in-Returning.field-0 c.args.word ∙ ap (λ w. waits_at (wait w) c.args.opcode c.args.word) (sym c.in-Returning.is)

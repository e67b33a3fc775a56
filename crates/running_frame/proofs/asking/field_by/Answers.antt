use Rattle.std.proofs.Common.{ap, sym, ◌∙◌}
use Rattle.std.specs.Prelude.{slice_get}
use Rattle.running_frame.proofs.asking.field_by.Goals as goal

pub returns-clause-object : goal.returns-clause-object
returns-clause-object c = ap (slice_get c.args.registers.now) (sym c.b.ensures) ∙ sym c.in_ok-object.ensures

pub returns-clause-key : goal.returns-clause-key
returns-clause-key c = ap (slice_get c.args.keys.now) (sym c.c.ensures) ∙ sym c.in_ok-key.ensures

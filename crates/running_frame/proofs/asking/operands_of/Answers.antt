use Rattle.std.proofs.Common.{ap, sym, ◌∙◌}
use Rattle.std.specs.Prelude.{slice_get}
use Rattle.running_frame.proofs.asking.operands_of.Goals as goal

pub returns-clause-object : goal.returns-clause-object
returns-clause-object c = ap (slice_get c.args.registers.now) (sym c.a.ensures) ∙ sym c.in_ok-object.ensures

pub returns-clause-key : goal.returns-clause-key
returns-clause-key c = ap (slice_get c.args.registers.now) (sym c.b.ensures) ∙ sym c.in_ok-key.ensures

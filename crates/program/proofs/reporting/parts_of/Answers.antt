use Rattle.std.proofs.Common.{refl}
use Rattle.program.proofs.reporting.parts_of.Goals as goal

pub returns-in-BrokenRule : goal.returns-in-BrokenRule
returns-in-BrokenRule c = rw (c.in-BrokenRule.is, c.from-in-BrokenRule.ensures) refl

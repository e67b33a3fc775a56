use Rattle.std.proofs.Common.{sym}
use Rattle.machine_arms_tables.proofs.inherited.field_within.Goals as goal

pub returns-in-Some : goal.returns-in-Some
returns-in-Some c = c.in-Some.ensures.settles c.args.strings.now

pub inherited-requires : goal.inherited-requires
inherited-requires c = sym c.in-None.ensures.field

use Rattle.machine_arms_tables.proofs.Settling.{border_settled}
use Rattle.machine_arms_tables.proofs.lengths.length_of.Goals as goal

pub returns-in-Table : goal.returns-in-Table
returns-in-Table c =
    border_settled c.tables_are_read.ensures c.args.strings.now c.args.tables.now.objects c.in-Table.id c.get.result.now c.args.v c.border_of.result c.in-Table.is c.get.ensures c.border_of.ensures.border c.border_of.ensures.bare

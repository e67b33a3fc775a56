use Rattle.std.proofs.Common.{◌≡◌, Some, rules}
use Rattle.std.specs.Prelude.{slice_get}
use Rattle.table_core.specs.declared.value.Value.TheVariants.{Table as a_table}
use Rattle.running_frame.proofs.filling.table_in.Goals as goal

pub returns-in-Table : goal.returns-in-Table
returns-in-Table c =
    let holds : slice_get c.args.registers.now c.args.register ≡ Some (a_table c.in-Table.id) = search rules in
    holds

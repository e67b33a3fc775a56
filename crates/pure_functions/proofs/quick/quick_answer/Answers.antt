use Rattle.pure_functions.specs.Functions.{text_row}
use Rattle.lib_string.specs.Quick.{quick_of}
use Rattle.pure_functions.proofs.QuickRows.{quick_row}
use Rattle.pure_functions.proofs.quick.quick_answer.Goals as goal

pub returns-in-Some : goal.returns-in-Some
returns-in-Some c =
    quick_row c.plain_rows_are_functions.ensures (text_row c.args.function) c.args.arguments.now c.args.world.now (quick_of c.in-Some.quick) c.told.result c.in-Some.ensures c.told.ensures

use Rattle.library_rows.proofs.Plain.{are_functions}
use Rattle.library_rows.proofs.law.plain_rows_are_functions.Goals as goal

pub returns : goal.returns
returns c = are_functions

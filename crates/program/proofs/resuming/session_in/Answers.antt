use Rattle.program.proofs.ImageLemmas.{not_read_for}
use Rattle.program.proofs.resuming.session_in.Goals as goal

pub returns-in-Err-clause-refused : goal.returns-in-Err-clause-refused
returns-in-Err-clause-refused c = not_read_for c.args.prelude c.args.content.now c.in-Err.fault c.fault_of_reading.result c.in-Err.ensures.refused c.fault_of_reading.ensures

use Rattle.machine_sound.proofs.LibrarySafe.{look_rows_safe, library_safe}
use Rattle.machine_sound.proofs.NewFunctions.{load_safe}
use Rattle.machine_sound.proofs.Steps.{safe_is_good}
use Rattle.machine_sound.proofs.law.library_rows_do_not_trap.Goals as goal

pub returns-clause-rows : goal.returns-clause-rows
returns-clause-rows c = look_rows_safe

pub returns-clause-loads : goal.returns-clause-loads
returns-clause-loads c = load_safe

pub returns-clause-good : goal.returns-clause-good
returns-clause-good c = safe_is_good

pub returns-clause-all : goal.returns-clause-all
returns-clause-all c = library_safe

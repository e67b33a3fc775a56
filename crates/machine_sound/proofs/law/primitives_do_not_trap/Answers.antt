use Rattle.machine_sound.proofs.FrameRowsSafe.{pcall_safe, xpcall_safe, error_safe, resume_safe, yield_safe, close_safe, create_safe, status_safe, running_safe, yieldable_safe, print_safe}
use Rattle.machine_sound.proofs.law.primitives_do_not_trap.Goals as goal

pub returns-clause-pcall : goal.returns-clause-pcall
returns-clause-pcall c = pcall_safe

pub returns-clause-xpcall : goal.returns-clause-xpcall
returns-clause-xpcall c = xpcall_safe

pub returns-clause-error : goal.returns-clause-error
returns-clause-error c = error_safe

pub returns-clause-resume : goal.returns-clause-resume
returns-clause-resume c = resume_safe

pub returns-clause-yields : goal.returns-clause-yields
returns-clause-yields c = yield_safe

pub returns-clause-close : goal.returns-clause-close
returns-clause-close c = close_safe

pub returns-clause-creates : goal.returns-clause-creates
returns-clause-creates c = create_safe

pub returns-clause-status : goal.returns-clause-status
returns-clause-status c = status_safe

pub returns-clause-running : goal.returns-clause-running
returns-clause-running c = running_safe

pub returns-clause-yieldable : goal.returns-clause-yieldable
returns-clause-yieldable c = yieldable_safe

pub returns-clause-prints : goal.returns-clause-prints
returns-clause-prints c = print_safe

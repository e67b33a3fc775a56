use Rattle.std.proofs.Common.{sym, subst}
use Rattle.move_laws.specs.Memory.{HasStack}
use Rattle.machine_errors.specs.Catching.{Catches}
use Rattle.machine_errors.proofs.Caught.{has_stack}
use Rattle.machine_frame_rows.proofs.catching.catch_error.Goals as goal

pub fail_running-requires-clause-running : goal.fail_running-requires-clause-running
fail_running-requires-clause-running c =
    let W = c.args.world.now in
    let none = subst (Catches W c.call_catcher.new.world) c.in-None.is c.in_ok-ending.ensures.catches in
    subst HasStack (sym none.same) (has_stack W c.requires.safe)

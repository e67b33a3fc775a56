use Rattle.std.proofs.Common.{length, sym, subst}
use Rattle.std.proofs.lemmas.Result.{IfOk-weaker}
use Rattle.library_rows.specs.Library.{all_entries}
use Rattle.machine_core.specs.Moves.{go}
use Rattle.step_laws.specs.Steps.{IsReady}
use Rattle.step_laws.proofs.Ready.{ready_is_sound}
use Rattle.source_builds.proofs.Knowing.{read_map}
use Rattle.running_frame.specs.Here.{IsHere}
use Rattle.lua_driver.proofs.Ahead.{at_once_again, done_here, nothing_done}
use Rattle.lua_driver.proofs.Forms.{form_here}
use Rattle.lua_driver.proofs.tail_calling.tail_call_here.Goals as goal

pub tail_call_library-requires-clause-runs : goal.tail_call_library-requires-clause-runs
tail_call_library-requires-clause-runs c = record { pc = c.args.here.pc; runs = form_here (ready_is_sound (length all_entries) _ c.args.world.now c.requires.ready) c.requires.here c.requires.calls }

pub returns-in-Some-clause-goes : goal.returns-in-Some-clause-goes
returns-in-Some-clause-goes c = done_here c.in-Some.is c.in_ok-done.ensures.comes

pub step_from-requires-clause-ready : goal.step_from-requires-clause-ready
step_from-requires-clause-ready c = subst (IsReady (length all_entries) go) (sym (nothing_done c.in-None.is c.in_ok-done.ensures.kept).0) c.requires.ready

pub step_from-requires-clause-here : goal.step_from-requires-clause-here
step_from-requires-clause-here c = subst (λ W. IsHere W c.args.here) (sym (nothing_done c.in-None.is c.in_ok-done.ensures.kept).0) c.requires.here

pub returns-in-None-clause-goes : goal.returns-in-None-clause-goes
returns-in-None-clause-goes c =
    let k = nothing_done c.in-None.is c.in_ok-done.ensures.kept in
    IfOk-weaker c.step_from.result _ _ (λ next d. read_map (λ builds are d. at_once_again c.requires.ready k.0 k.1 d) d) c.step_from.ensures.does

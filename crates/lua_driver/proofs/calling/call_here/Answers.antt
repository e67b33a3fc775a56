use Rattle.std.proofs.Common.{[], length, sym, subst, arith}
use Rattle.std.proofs.lemmas.Result.{IfOk-weaker}
use Rattle.library_rows.specs.Library.{all_entries}
use Rattle.instruction_forms.specs.Forms.{text_of}
use Rattle.instruction_forms.specs.declared.form.Form.TheVariants.{Call}
use Rattle.machine_core.specs.FrameRows.{expand}
use Rattle.move_laws.specs.Memory.{IsSafe, IsSound, Steps}
use Rattle.machine_moves.specs.Ending.{ending_of}
use Rattle.machine_call_rows.specs.Rows.{MayKeep}
use Rattle.step_laws.proofs.Ready.{ready_is_sound}
use Rattle.machine_step.proofs.ByForm.{does, keeps, safe, small}
use Rattle.lua_driver.proofs.Ahead.{done_here, nothing_done, read_once}
use Rattle.lua_driver.proofs.Forms.{form_here}
use Rattle.lua_driver.proofs.calling.call_here.Goals as goal

pub call_library-requires-clause-runs : goal.call_library-requires-clause-runs
call_library-requires-clause-runs c = form_here (ready_is_sound (length all_entries) _ c.args.world.now c.requires.ready) c.requires.here c.requires.calls

pub returns-in-Some-clause-goes : goal.returns-in-Some-clause-goes
returns-in-Some-clause-goes c = done_here c.in-Some.is c.in_ok-done.ensures.comes

pub call-requires : goal.call-requires
call-requires c =
    let s = ready_is_sound (length all_entries) _ c.args.world.now c.requires.ready in
    let r = form_here s c.requires.here c.requires.calls in
    let k = nothing_done c.in-None.is c.in_ok-done.ensures.kept in
    let l = (small r).0 in
    record {
      sound = subst IsSound (sym k.0) s;
      keeps = subst (λ W. MayKeep W c.args.at.keeps) (sym k.0) (keeps r);
      near = omega (arith, l);
      safe = λ p pc. subst (λ W. IsSafe (expand (text_of p pc (Call c.args.at.function c.args.at.count c.args.at.keeps c.args.at.iterates))) [] W) (sym k.0) (safe r s);
    }

pub returns-in-None-clause-goes : goal.returns-in-None-clause-goes
returns-in-None-clause-goes c =
    let W = c.args.world.now in
    let V = c.call.new.world in
    let left = c.call.new.budget in
    let r = form_here (ready_is_sound (length all_entries) _ W c.requires.ready) c.requires.here c.requires.calls in
    let k = nothing_done c.in-None.is c.in_ok-done.ensures.kept in
    let row = expand (text_of r.runs.place.function.code c.args.here.pc (Call c.args.at.function c.args.at.count c.args.at.keeps c.args.at.iterates)) in
    IfOk-weaker c.call.result _ _
    (λ next t.
    let steps : Steps row [] W c.args.budget.now V left (ending_of next) =
    subst (λ fuel. Steps row [] W fuel V left (ending_of next)) k.1 (subst (λ X. Steps row [] X c.call_library.new.budget V left (ending_of next)) k.0 (t r.runs.place.function.code c.args.here.pc)) in
    read_once c.requires.ready (does r steps))
    c.call.ensures.steps

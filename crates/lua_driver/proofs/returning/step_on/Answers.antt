use Rattle.std.proofs.Common.{length, subst, arith}
use Rattle.std.proofs.lemmas.Result.{IfOk-weaker}
use Rattle.library_rows.specs.Library.{all_entries}
use Rattle.instruction_forms.specs.declared.form.Form.TheVariants.{Call, Concatenate, NewFunction, TailCall}
use Rattle.source_builds.proofs.Knowing.{read_map}
use Rattle.step_laws.proofs.Ready.{ready_is_sound}
use Rattle.step_laws.proofs.Unpaid.{function_unpaid}
use Rattle.machine_step.proofs.ByForm.{begins, does, safe, safe_here, small, stands, unpaid}
use Rattle.lua_driver.specs.Here.{RunsHere}
use Rattle.lua_driver.specs.Returning.{ReturnsFew}
use Rattle.lua_driver.specs.Words.{IsQuick}
use Rattle.lua_driver.proofs.Ahead.{at_once, read_once}
use Rattle.lua_driver.proofs.Forms.{form_here}
use Rattle.lua_driver.proofs.returning.step_on.Goals as goal

pub call_here-requires : goal.call_here-requires
call_here-requires c =
    let at = c.in-Calls.at in
    let calls : RunsHere c.args.here (Call at.function at.count at.keeps at.iterates) = subst (IsQuick c.args.here) c.in-Calls.is c.quick_at.ensures in
    record { ready = c.requires.ready; here = c.requires.here; calls = calls }

pub tail_call_here-requires : goal.tail_call_here-requires
tail_call_here-requires c =
    let calls : RunsHere c.args.here (TailCall c.in-TailCalls.function c.in-TailCalls.count) = subst (IsQuick c.args.here) c.in-TailCalls.is c.quick_at.ensures in
    record { ready = c.requires.ready; here = c.requires.here; calls = calls }

pub return_few-requires : goal.return_few-requires
return_few-requires c =
    let few : ReturnsFew c.args.here c.in-Returns.count = subst (IsQuick c.args.here) c.in-Returns.is c.quick_at.ensures in
    record { ready = c.requires.ready; here = c.requires.here; few = few }

pub new_function-requires : goal.new_function-requires
new_function-requires c =
    let makes : RunsHere c.args.here (NewFunction c.in-Makes.inner c.in-Makes.to) = subst (IsQuick c.args.here) c.in-Makes.is c.quick_at.ensures in
    let s = ready_is_sound (length all_entries) _ c.args.world.now c.requires.ready in
    let r = form_here s c.requires.here makes in
    let l = small r in
    record { stands = begins r s; small = omega (arith, l); safe = safe_here r s }

pub returns-in-Makes-clause-goes : goal.returns-in-Makes-clause-goes
returns-in-Makes-clause-goes c =
    let makes : RunsHere c.args.here (NewFunction c.in-Makes.inner c.in-Makes.to) = subst (IsQuick c.args.here) c.in-Makes.is c.quick_at.ensures in
    let r = form_here (ready_is_sound (length all_entries) _ c.args.world.now c.requires.ready) c.requires.here makes in
    let none = function_unpaid r.runs.place.function.code c.args.here.pc c.in-Makes.inner c.in-Makes.to in
    IfOk-weaker c.new_function.result _ _ (λ next leads. read_once c.requires.ready (unpaid r none (leads r.runs.place r.runs.is))) c.new_function.ensures.leads

pub concatenate-requires : goal.concatenate-requires
concatenate-requires c =
    let concats : RunsHere c.args.here (Concatenate c.in-Concats.first c.in-Concats.count) = subst (IsQuick c.args.here) c.in-Concats.is c.quick_at.ensures in
    let s = ready_is_sound (length all_entries) _ c.args.world.now c.requires.ready in
    let r = form_here s c.requires.here concats in
    let l = (small r).0 in
    let m = (small r).1 in
    record { stands = begins r s; size = omega (arith, l, m); safe = λ p. safe r s }

pub returns-in-Concats-clause-goes : goal.returns-in-Concats-clause-goes
returns-in-Concats-clause-goes c =
    let concats : RunsHere c.args.here (Concatenate c.in-Concats.first c.in-Concats.count) = subst (IsQuick c.args.here) c.in-Concats.is c.quick_at.ensures in
    let r = form_here (ready_is_sound (length all_entries) _ c.args.world.now c.requires.ready) c.requires.here concats in
    IfOk-weaker c.concatenate.result _ _ (λ next steps. read_once c.requires.ready (does r (steps r.runs.place.function.code))) c.concatenate.ensures.steps

pub returns-in-Other-clause-goes : goal.returns-in-Other-clause-goes
returns-in-Other-clause-goes c = IfOk-weaker c.step_from.result _ _ (λ next d. read_map (λ builds are d. at_once c.requires.ready d) d) c.step_from.ensures.does

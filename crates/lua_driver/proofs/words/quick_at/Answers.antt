use Rattle.std.proofs.Common.{◌+◌, Some, true, false, ap, ap₂, refl, sym, ◌∙◌}
use Rattle.code_core.specs.Instruction.{a_of, b_of, bx_of}
use Rattle.code_core.specs.declared.opcode.Opcode.TheVariants.{Call as Calls, TForCall, TailCall as TailCalls, Return0, Return1, Closure, Concat}
use Rattle.instruction_forms.specs.declared.form.Form.TheVariants.{Call, Concatenate, NewFunction, TailCall}
use Rattle.running_frame.proofs.Places.{runs_where}
use Rattle.lua_driver.proofs.Few.{returns_some}
use Rattle.lua_driver.proofs.Forms.{runs_so}
use Rattle.lua_driver.proofs.words.quick_at.Goals as goal

pub returns-in-Some-Call : goal.returns-in-Some-Call
returns-in-Some-Call c =
    let w = c.args.here.word in
    runs_so Calls (Call (a_of w) (b_of w) (a_of w) false) (runs_where c.args.here.runs c.if-not-here.false) (sym c.opcode.ensures ∙ c.in-Some-Call.is ∙ ap Some c.in-Some-Call.field-0-is) refl (λ p pc. refl)
    (ap₂ (λ n m. Call n m n false) (sym (c.from-a.ensures ∙ c.a.ensures)) (sym (c.from-b.ensures ∙ c.b.ensures)))

pub returns-in-Some-TForCall : goal.returns-in-Some-TForCall
returns-in-Some-TForCall c =
    let w = c.args.here.word in
    runs_so TForCall (Call (a_of w) 3 (a_of w + 4) true) (runs_where c.args.here.runs c.if-not-here.false) (sym c.opcode.ensures ∙ c.in-Some-TForCall.is ∙ ap Some c.in-Some-TForCall.field-0-is) refl (λ p pc. refl)
    (ap (λ n. Call n 3 (n + 4) true) (sym (c.from-a.ensures ∙ c.a.ensures)))

pub returns-in-Some-TailCall : goal.returns-in-Some-TailCall
returns-in-Some-TailCall c =
    let w = c.args.here.word in
    runs_so TailCalls (TailCall (a_of w) (b_of w)) (runs_where c.args.here.runs c.if-not-here.false) (sym c.opcode.ensures ∙ c.in-Some-TailCall.is ∙ ap Some c.in-Some-TailCall.field-0-is) refl (λ p pc. refl)
    (ap₂ TailCall (sym (c.from-a.ensures ∙ c.a.ensures)) (sym (c.from-b.ensures ∙ c.b.ensures)))

pub return_at-requires : goal.return_at-requires
return_at-requires c = record {
  runs = runs_where c.args.here.runs c.if-not-here.false;
  returns = sym c.opcode.ensures ∙ c.in-Some-Return.is ∙ ap Some c.in-Some-Return.field-0-is;
}

pub returns-in-Some-Return0 : goal.returns-in-Some-Return0
returns-in-Some-Return0 c = returns_some Return0 0 (runs_where c.args.here.runs c.if-not-here.false) (sym c.opcode.ensures ∙ c.in-Some-Return0.is ∙ ap Some c.in-Some-Return0.field-0-is) refl (λ p pc. refl)

pub returns-in-Some-Return1 : goal.returns-in-Some-Return1
returns-in-Some-Return1 c = returns_some Return1 1 (runs_where c.args.here.runs c.if-not-here.false) (sym c.opcode.ensures ∙ c.in-Some-Return1.is ∙ ap Some c.in-Some-Return1.field-0-is) refl (λ p pc. refl)

pub returns-in-Some-Closure : goal.returns-in-Some-Closure
returns-in-Some-Closure c =
    let w = c.args.here.word in
    runs_so Closure (NewFunction (bx_of w) (a_of w)) (runs_where c.args.here.runs c.if-not-here.false) (sym c.opcode.ensures ∙ c.in-Some-Closure.is ∙ ap Some c.in-Some-Closure.field-0-is) refl (λ p pc. refl)
    (ap₂ NewFunction (sym c.bx-inner.ensures) (sym (c.from-a.ensures ∙ c.a.ensures)))

pub returns-in-Some-Concat : goal.returns-in-Some-Concat
returns-in-Some-Concat c =
    let w = c.args.here.word in
    runs_so Concat (Concatenate (a_of w) (b_of w)) (runs_where c.args.here.runs c.if-not-here.false) (sym c.opcode.ensures ∙ c.in-Some-Concat.is ∙ ap Some c.in-Some-Concat.field-0-is) refl (λ p pc. refl)
    (ap₂ Concatenate (sym (c.from-a.ensures ∙ c.a.ensures)) (sym (c.from-b.ensures ∙ c.b.ensures)))

use Rattle.std.proofs.Common.{refl, subst}
use Rattle.std.specs.Prelude.{IfSome}
use Rattle.frame_calls.specs.Calling.{program_of}
use Rattle.running_frame.specs.Asking.{IsAsked}
use Rattle.running_frame.specs.Inheriting.{metatable_number}
use Rattle.running_frame.proofs.Handlers.{asks_by, same_stack}
use Rattle.running_frame.proofs.asking.ask_over.Goals as goal

pub pay_for-requires-clause-top : goal.pay_for-requires-clause-top
pay_for-requires-clause-top c = c.requires.top

pub pay_for-requires-clause-params : goal.pay_for-requires-clause-params
pay_for-requires-clause-params c =
    let call = subst (λ o. IfSome o (λ call. IsAsked c.args.stack.now c.args.heap.strings.now c.args.constants.now c.args.heap.tables.now.objects (metatable_number c.args.heap.string_meta) (program_of c.args.stop.functions) c.args.stop.word call)) c.in-Some.is c.call_asked.ensures in
    call.has.params

pub returns-in-Some-clause-asks : goal.returns-in-Some-clause-asks
returns-in-Some-clause-asks c =
    let call = subst (λ o. IfSome o (λ call. IsAsked c.args.stack.now c.args.heap.strings.now c.args.constants.now c.args.heap.tables.now.objects (metatable_number c.args.heap.string_meta) (program_of c.args.stop.functions) c.args.stop.word call)) c.in-Some.is c.call_asked.ensures in
    asks_by call c.pay_for.new.stack c.args.budget.now c.pay_for.new.budget c.pay_for.result c.pay_for.ensures.pays c.pay_for.ensures.enters

pub returns-in-None-clause-kept : goal.returns-in-None-clause-kept
returns-in-None-clause-kept c = (same_stack c.args.stack.now, refl)

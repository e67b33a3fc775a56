use Rattle.std.proofs.Common.{◌≡◌, Some, ap, sym, ◌∙◌, arith, rules}
use Rattle.code_core.specs.Instruction.{c_of}
use Rattle.frame_calls.proofs.OpenLists.{call_opens, varargs_open}
use Rattle.frame_calls.proofs.spreading.opened_from.Goals as goal

pub returns-in-Some-Call : goal.returns-in-Some-Call
returns-in-Some-Call c =
    let none : c_of c.args.i ≡ 0 = search (rules, arith) in
    call_opens c.args.i c.a-register.result (sym c.opcode.ensures ∙ c.in-Some-Call.is ∙ ap (λ o. Some o) c.in-Some-Call.field-0-is) none c.a-register.ensures

pub returns-in-Some-VarArg : goal.returns-in-Some-VarArg
returns-in-Some-VarArg c =
    let none : c_of c.args.i ≡ 0 = search (rules, arith) in
    varargs_open c.args.i c.a-register.result (sym c.opcode.ensures ∙ c.in-Some-VarArg.is ∙ ap (λ o. Some o) c.in-Some-VarArg.field-0-is) none c.a-register.ensures

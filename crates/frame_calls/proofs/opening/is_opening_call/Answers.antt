use Rattle.std.proofs.Common.{◌≡◌, Some, ap, sym, ◌∙◌, arith, rules}
use Rattle.code_core.specs.Instruction.{c_of}
use Rattle.frame_calls.specs.Calling.{is_call}
use Rattle.frame_calls.proofs.opening.is_opening_call.Goals as goal

pub returns-in-Some-Call : goal.returns-in-Some-Call
returns-in-Some-Call c = λ yes.
    let none : c_of c.args.i ≡ 0 = search (rules, arith) in
    (ap is_call (sym c.opcode.ensures ∙ c.in-Some-Call.is ∙ ap (λ o. Some o) c.in-Some-Call.field-0-is), none)
